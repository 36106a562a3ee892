-- What a run does.
--   Trace, trace  what a device tells before and after, where it tells it (the bytes that a source has left, or that a sink was
--                 given), and its counts of faults before and after
--   ReadsWhole    a source was read to its end and gave these bytes, at most 16777216 of them
--   setting_of, shown_of, bad_of   what a request is answered in, and by what its unit is found; the first bad place of its formula
--   AnswersRequest  an answer to a request
--   IsWithin      a request has a formula and a limit as small as the form demands
--   GivesRequest  a source was read to its end and gave a request
--   IsAnswered    it gave one, and the text is the line of an answer to it
--   IsElement     it gave one, and the text is the line of the element of its value at a row and column from 1, if there is one
--   IsGenerated   the text is the line on an answer to the request that a number makes
--   RefusedBy     what stands against a formula: its first bad place, or want of memory
--   IsNoRequest   it gave bytes that are no request
--   IsBadRequest  it gave a request whose formula is bad at a place
--   IsOutput      what a command sends
--   HasRequest    a source has just the bytes of a valid request
--   IsFed         a source has just what a command asks of it
--   TakesNoInput  nothing is read for a command, or for words that are none
--   IsRefused     what a refusal of a request stands on: the bytes or the count of faults
--   HasReason     what a refusal stands on: the command, or a request
--   Intended      the text that a run sets out to write: what the command sends, or the line of a refusal that has its reason
--   IsSent        the text was written, and the status stays; or the sink refused a call, and a front of it was
--   Refused       a refusal has its reason, and its line was written
--   Ended         by the status: its cause, and what was written
--   IsFaultless   a count of faults stayed, and below its last value
use Rattle.std.specs.Prelude.{◌≡◌, ℕ, ◌+◌, ◌-◌, ◌^◌, ◌<◌, ◌≤◌, List, length, Option, None, Some, ⊤, ◌⊎◌}
use Rattle.device_core.specs.Faults.{Rose}
use Rattle.device_core.specs.Flow.{Consumes, ConsumesAtMost, ConsumesCount, IsAtEnd, Adds, AddsFront}
use Rattle.device_core.specs.declared.read.TheConstants.{LIMIT}
use Rattle.kind_table.specs.CrateTable.{crate_table}
use Rattle.tree_core.specs.Count.{size_of}
use Rattle.tree_core.specs.Formula.{tree_of}
use Rattle.validity_core.specs.Place.{bad_place}
use Rattle.validity_core.specs.declared.place.Place.{Place}
use Rattle.eval_core.specs.Meaning.{mean}
use Rattle.eval_core.specs.Setting.{Setting, setting}
use Rattle.request_core.specs.Request.{Asked, request_of}
use Rattle.request_core.specs.declared.request.Request.{Request}
use Rattle.generator_core.specs.Line.{summary_line}
use Rattle.generator_core.specs.Request.{generated}
use Rattle.print_core.specs.Answer.{answer_line}
use Rattle.print_core.specs.ValueLine.{value_line}
use Rattle.view_core.specs.Viewed.{value_at}
use Rattle.print_core.specs.declared.answer.Answer.{Answer as TheAnswer}
use Rattle.answer_core.specs.declared.command.Command.{Command}
use Rattle.answer_core.specs.declared.command.Command.TheVariants.{Answer, Cell, Generate}
use Rattle.answer_core.specs.declared.refusal.Refusal.{Refusal}
use Rattle.answer_core.specs.declared.refusal.Refusal.TheVariants.{Usage, ReadFault, TooLong, BadJson, BadRequest, Memory}
use Rattle.answer_core.specs.declared.status.Status.{Status}
use Rattle.answer_core.specs.declared.status.Status.TheVariants as status
use Rattle.answer_core.specs.Answers.{Answers}
use Rattle.answer_core.specs.Shown.{Shown, shown_by}
use Rattle.answer_core.specs.Refusal.{line_of}

pub record Trace : Type 0 where
  pub old : Option (List ℕ)
  pub new : Option (List ℕ)
  pub faults_before : ℕ
  pub faults_now : ℕ

abbrev pub trace : (old new : Option (List ℕ)) → (faults_before faults_now : ℕ) → Trace
trace old new faults_before faults_now = record { old = old; new = new; faults_before = faults_before; faults_now = faults_now }

pub record ReadsWhole (source : Trace) (bytes : List ℕ) : Type 0 where
  pub consumed : Consumes source.old source.new bytes
  pub at_end : IsAtEnd source.new
  pub within : length bytes ≤ LIMIT

-- what a request is answered in: the table of the crate, and the limit of cells that it asks for
abbrev pub setting_of : Asked → Setting
setting_of request = setting crate_table request.book request.options.limit request.cell

abbrev pub shown_of : Asked → Shown
shown_of request = shown_by request.first_part request.locale

abbrev pub AnswersRequest : Asked → TheAnswer → Type 0
AnswersRequest request answer = Answers request.options.rule (setting_of request) (shown_of request) request.formula answer

-- the first bad place of a request's formula
abbrev pub bad_of : Asked → Option Place
bad_of request = bad_place crate_table (length request.book.sheets) request.cell request.formula

-- one line for each refusal
abbrev pub RefusedBy : Option Place → Refusal → Type 0
RefusedBy bad Usage = ⊥
RefusedBy bad ReadFault = ⊥
RefusedBy bad TooLong = ⊥
RefusedBy bad BadJson = ⊥
RefusedBy bad (BadRequest place) = bad ≡ Some place
RefusedBy bad Memory = bad ≡ None

pub record IsWithin (request : Request) : Type 0 where
  pub nodes : size_of (tree_of request.formula) ≤ 16777216
  pub cells : request.options.limit ≤ 16777216

pub record GivesRequest (source : Trace) (request : Asked) : Type 0 where
  pub bytes : List ℕ
  pub whole : ReadsWhole source bytes
  pub is_request : request_of bytes ≡ Some request

pub record IsAnswered (source : Trace) (text : List ℕ) : Type 0 where
  pub request : Asked
  pub given : GivesRequest source request
  pub answer : TheAnswer
  pub answers : AnswersRequest request answer
  pub text_is : text ≡ answer_line answer

pub record IsElement (row column : ℕ) (source : Trace) (text : List ℕ) : Type 0 where
  pub request : Asked
  pub given : GivesRequest source request
  pub text_is : text ≡ value_line (value_at (mean (setting_of request) request.formula) row column)

pub record IsGenerated (seed : ℕ) (text : List ℕ) : Type 0 where
  pub answer : TheAnswer
  pub answers : AnswersRequest (generated seed) answer
  pub text_is : text ≡ summary_line (generated seed).formula answer

pub record IsNoRequest (source : Trace) : Type 0 where
  pub bytes : List ℕ
  pub whole : ReadsWhole source bytes
  pub is_none : request_of bytes ≡ None

pub record IsBadRequest (source : Trace) (place : Place) : Type 0 where
  pub request : Asked
  pub given : GivesRequest source request
  pub is_bad : bad_of request ≡ Some place

-- one line for each command
abbrev pub IsOutput : Option Command → (source : Trace) → List ℕ → Type 0
IsOutput None source text = ⊥
IsOutput (Some Answer) source text = IsAnswered source text
IsOutput (Some (Cell row column)) source text = IsElement row column source text
IsOutput (Some (Generate seed)) source text = IsGenerated seed text

pub record HasRequest (left : Option (List ℕ)) : Type 0 where
  pub bytes : List ℕ
  pub told : left ≡ Some bytes
  pub within : length bytes ≤ LIMIT
  pub request : Asked
  pub is_request : request_of bytes ≡ Some request
  pub is_valid : bad_of request ≡ None

-- one line for each command
abbrev pub IsFed : Option Command → (left : Option (List ℕ)) → Type 0
IsFed None left = ⊥
IsFed (Some Answer) left = HasRequest left
IsFed (Some (Cell row column)) left = HasRequest left
IsFed (Some (Generate seed)) left = ⊤

-- one line for each command
abbrev pub TakesNoInput : Option Command → Type 0
TakesNoInput None = ⊤
TakesNoInput (Some Answer) = ⊥
TakesNoInput (Some (Cell row column)) = ⊥
TakesNoInput (Some (Generate seed)) = ⊤

-- one line for each refusal
abbrev pub IsRefused : (source : Trace) → Refusal → Type 0
IsRefused source Usage = ⊥
IsRefused source ReadFault = Rose source.faults_before source.faults_now × ConsumesAtMost source.old source.new LIMIT
IsRefused source TooLong = ConsumesCount source.old source.new (LIMIT + 1)
IsRefused source BadJson = IsNoRequest source
IsRefused source (BadRequest place) = IsBadRequest source place
IsRefused source Memory = ⊤

-- one line for each command
abbrev pub HasReason : Option Command → (source : Trace) → Refusal → Type 0
HasReason None source refusal = refusal ≡ Usage
HasReason (Some Answer) source refusal = IsRefused source refusal
HasReason (Some (Cell row column)) source refusal = IsRefused source refusal
HasReason (Some (Generate seed)) source refusal = refusal ≡ Memory

abbrev pub Intended : Option Command → (source : Trace) → List ℕ → Type 0
Intended command source text = IsOutput command source text ⊎ ((refusal : Refusal) × HasReason command source refusal × (text ≡ line_of refusal))

abbrev pub IsSent : (sink : Trace) → List ℕ → Status → Status → Type 0
IsSent sink text wanted result =
    ((result ≡ wanted) × Adds sink.old sink.new text × (sink.faults_now ≡ sink.faults_before))
    ⊎ ((result ≡ status.WriteFault) × AddsFront sink.old sink.new text × Rose sink.faults_before sink.faults_now)

abbrev pub Refused : Option Command → (source sink : Trace) → Refusal → Type 0
Refused command source sink refusal = HasReason command source refusal × Adds sink.old sink.new (line_of refusal)

-- one line for each status
abbrev pub Ended : Option Command → (source sink : Trace) → Status → Type 0
Ended command source sink status.Done = (text : List ℕ) × IsOutput command source text × Adds sink.old sink.new text
Ended command source sink status.Usage = Refused command source sink Usage
Ended command source sink status.ReadFault = Refused command source sink ReadFault
Ended command source sink status.TooLong = Refused command source sink TooLong
Ended command source sink status.BadJson = Refused command source sink BadJson
Ended command source sink (status.BadRequest place) = Refused command source sink (BadRequest place)
Ended command source sink status.Memory = Refused command source sink Memory
Ended command source sink status.WriteFault =
    (text : List ℕ) × Intended command source text × AddsFront sink.old sink.new text × Rose sink.faults_before sink.faults_now

pub record IsFaultless (before now : ℕ) : Type 0 where
  pub stays : now ≡ before
  pub below_end : before < 2 ^ 64 - 1
