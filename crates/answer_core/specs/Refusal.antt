-- Why nothing that was asked for is sent.
--   status_of        the status of a run that ends so
--   words_of         the words of the line that is written; number_of, the number behind them, where there is one
--   line_of          that line, with its newline
--   read_refusal     the refusal of an input that can't be read
--   form_refusal     the refusal of bytes that are no request
--   fault_refusal    the refusal of a formula that has no answer
--   CountsRefusal    a source's count of faults never falls, and rises for `ReadFault` alone
use Rattle.std.specs.Prelude.{◌≡◌, ℕ, ◌≤◌, Result, Ok, Err, List, [], ◌∷◌, ◌++◌, codes, decimal}
use Rattle.device_core.specs.declared.read.ReadError.{ReadError}
use Rattle.device_core.specs.declared.read.ReadError.TheVariants as read
use Rattle.value_json.specs.declared.error.FormError.{FormError}
use Rattle.value_json.specs.declared.error.FormError.TheVariants as form
use Rattle.validity_core.specs.declared.place.Place.TheVariants.{Cell, Node}
use Rattle.eval_core.specs.declared.fault.Fault.{Fault}
use Rattle.eval_core.specs.declared.fault.Fault.TheVariants as fault
use Rattle.answer_core.specs.declared.status.Status.{Status}
use Rattle.answer_core.specs.declared.status.Status.TheVariants as status
use Rattle.answer_core.specs.declared.refusal.Refusal.{Refusal}
use Rattle.answer_core.specs.declared.refusal.Refusal.TheVariants.{Usage, ReadFault, TooLong, BadJson, BadRequest, Memory}

abbrev pub status_of : Refusal → Status
status_of Usage = status.Usage
status_of ReadFault = status.ReadFault
status_of TooLong = status.TooLong
status_of BadJson = status.BadJson
status_of (BadRequest place) = status.BadRequest place
status_of Memory = status.Memory

abbrev pub words_of : Refusal → List ℕ
words_of Usage = codes "usage: answer, cell ROW COLUMN or generate N"
words_of ReadFault = codes "read fault"
words_of TooLong = codes "too long"
words_of BadJson = codes "bad json"
words_of (BadRequest Cell) = codes "bad request at cell"
words_of (BadRequest (Node number)) = codes "bad request at node "
words_of Memory = codes "memory"

abbrev pub number_of : Refusal → List ℕ
number_of (BadRequest (Node number)) = decimal number
number_of other = []

abbrev pub line_of : Refusal → List ℕ
line_of refusal = words_of refusal ++ number_of refusal ++ 10 ∷ []

abbrev pub read_refusal : ReadError → Refusal
read_refusal read.Memory = Memory
read_refusal read.Fault = ReadFault
read_refusal read.TooLong = TooLong

abbrev pub form_refusal : FormError → Refusal
form_refusal form.Memory = Memory
form_refusal form.NotOfForm = BadJson

abbrev pub fault_refusal : Fault → Refusal
fault_refusal (fault.BadRequest place) = BadRequest place
fault_refusal fault.Memory = Memory

abbrev pub CountsRefusal : {T : Type 0} → (before now : ℕ) → Result T Refusal → Type 0
CountsRefusal before now (Ok _) = now ≡ before
CountsRefusal before now (Err Usage) = now ≡ before
CountsRefusal before now (Err ReadFault) = before ≤ now
CountsRefusal before now (Err TooLong) = now ≡ before
CountsRefusal before now (Err BadJson) = now ≡ before
CountsRefusal before now (Err (BadRequest place)) = now ≡ before
CountsRefusal before now (Err Memory) = now ≡ before
