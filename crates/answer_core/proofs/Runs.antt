-- Runs that have all they ask for, and refused requests.
--   whole-is      what is read to the end is what a source had
--   read-least    what is read is no more than that
--   fed-valid     a source with a valid request gives no bad one
--   read-refused  without faults, want of memory alone refuses a valid request
--   fed-refused   without faults, want of memory alone refuses a run that is fed
--   complete      so it is carried out, or memory ran out
--   refused       what stands against a request's formula is a reason to refuse it
use Rattle.std.proofs.Common.{◌≡◌, ℕ, ◌≤◌, List, ◌++◌, length, Option, Some, None, inl, inr, ◌⊎◌, refl, sym, ap, ◌∙◌, arith, subst}
use Rattle.std.proofs.lemmas.List.{append-nil, length-append}
use Rattle.device_core.specs.Faults.{Rose}
use Rattle.device_core.specs.Flow.{Consumes, IsAtEnd}
use Rattle.validity_core.specs.declared.place.Place.{Place}
use Rattle.request_core.specs.Request.{Asked, request_of}
use Rattle.answer_core.specs.declared.command.Command.{Command}
use Rattle.answer_core.specs.declared.command.Command.TheVariants.{Answer, Cell, Generate}
use Rattle.answer_core.specs.declared.refusal.Refusal.{Refusal}
use Rattle.answer_core.specs.declared.refusal.Refusal.TheVariants.{Usage, ReadFault, TooLong, BadJson, BadRequest, Memory}
use Rattle.answer_core.specs.declared.status.Status.{Status}
use Rattle.answer_core.specs.declared.status.Status.TheVariants as status
use Rattle.answer_core.specs.Refusal.{status_of}
use Rattle.answer_core.specs.Run.{Trace, ReadsWhole, GivesRequest, HasRequest, IsBadRequest, IsRefused, HasReason, IsFed, IsFaultless, IsSent, RefusedBy, bad_of}

some-is : {A : Type 0} (x y : A) → Some x ≡ Some y → x ≡ y
some-is x y e = cc

whole-is : (old new : Option (List ℕ)) (given read : List ℕ) → old ≡ Some given → Consumes old new read → IsAtEnd new → read ≡ given
whole-is None new given read told c e = cc
whole-is (Some before) None given read told c e = absurd c
whole-is (Some before) (Some after) given read told c e = sym (append-nil read) ∙ ap (λ rest. read ++ rest) (sym e) ∙ sym c ∙ some-is before given told

read-least : (old new : Option (List ℕ)) (given read : List ℕ) → old ≡ Some given → Consumes old new read → length read ≤ length given
read-least None new given read told c = cc
read-least (Some before) None given read told c = absurd c
read-least (Some before) (Some after) given read told c =
    let long = length-append read after in let same = ap length (sym c ∙ some-is before given told) in omega (arith, long, same)

bad-valid : (asked : Asked) (place : Place) → bad_of asked ≡ None → bad_of asked ≡ Some place → ⊥
bad-valid asked place none some = cc

module _ (source : Trace) where
  fed-valid : (place : Place) → HasRequest source.old → IsBadRequest source place → ⊥
  fed-valid place fed bad =
      let same = whole-is source.old source.new fed.bytes bad.given.bytes fed.told bad.given.whole.consumed bad.given.whole.at_end in
      let one = some-is bad.request fed.request (sym bad.given.is_request ∙ ap request_of same ∙ fed.is_request) in
      bad-valid fed.request place fed.is_valid (ap bad_of (sym one) ∙ bad.is_bad)

  fed-read : (bytes : List ℕ) → HasRequest source.old → ReadsWhole source bytes → request_of bytes ≡ None → ⊥
  fed-read bytes fed whole none =
      let same = whole-is source.old source.new fed.bytes bytes fed.told whole.consumed whole.at_end in
      some-none fed.request (sym fed.is_request ∙ ap request_of (sym same) ∙ none)
    where
      some-none : (asked : Asked) → Some asked ≡ None → ⊥
      some-none asked e = cc

  risen : IsFaultless source.faults_before source.faults_now → Rose source.faults_before source.faults_now → ⊥
  risen quiet rose = let same = quiet.stays in let below = quiet.below_end in omega (arith, same, below, rose)

  pub read-refused : (refusal : Refusal) → IsRefused source refusal → HasRequest source.old
      → IsFaultless source.faults_before source.faults_now → refusal ≡ Memory
  read-refused Usage reason fed quiet = absurd reason
  read-refused ReadFault reason fed quiet = absurd (risen quiet reason.0)
  read-refused TooLong reason fed quiet =
      let least = read-least source.old source.new fed.bytes reason.bytes fed.told reason.consumed in
      let most = fed.within in let count = reason.counted in absurd (omega (arith, least, most, count))
  read-refused BadJson reason fed quiet = absurd (fed-read reason.bytes fed reason.whole reason.is_none)
  read-refused (BadRequest place) reason fed quiet = absurd (fed-valid place fed reason)
  read-refused Memory reason fed quiet = refl

  pub fed-refused : (command : Option Command) (refusal : Refusal) → HasReason command source refusal → IsFed command source.old
      → IsFaultless source.faults_before source.faults_now → refusal ≡ Memory
  fed-refused None refusal reason fed quiet = absurd fed
  fed-refused (Some Answer) refusal reason fed quiet = read-refused refusal reason fed quiet
  fed-refused (Some (Cell row column)) refusal reason fed quiet = read-refused refusal reason fed quiet
  fed-refused (Some (Generate seed)) refusal reason fed quiet = reason

  pub complete : (command named : Option Command) (sink : Trace) (refusal : Refusal) (text : List ℕ) (wanted result : Status) → named ≡ command
      → wanted ≡ status_of refusal → HasReason named source refusal → IsSent sink text wanted result → IsFed command source.old
      → IsFaultless source.faults_before source.faults_now → IsFaultless sink.faults_before sink.faults_now
      → (result ≡ status.Done) ⊎ (result ≡ status.Memory)
  complete command named sink refusal text wanted result same is reason (inl sent) fed quiet heard =
      let why = subst (λ named. HasReason named source refusal) same reason in
      inr (sent.0 ∙ is ∙ ap status_of (fed-refused command refusal why fed quiet))
  complete command named sink refusal text wanted result same is reason (inr cut) fed quiet heard =
      let stays = heard.stays in let below = heard.below_end in let rose = cut.2 in absurd (omega (arith, stays, below, rose))

pub refused : (source : Trace) (asked : Asked) (refusal : Refusal) → GivesRequest source asked → RefusedBy (bad_of asked) refusal → IsRefused source refusal
refused source asked Usage given bad = absurd bad
refused source asked ReadFault given bad = absurd bad
refused source asked TooLong given bad = absurd bad
refused source asked BadJson given bad = absurd bad
refused source asked (BadRequest place) given bad = record { request = asked; given = given; is_bad = bad }
refused source asked Memory given bad = tt
