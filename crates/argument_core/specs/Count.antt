-- Counts of arguments: a call with another count is #ERROR!.
--   required     the first argument, which there has to be
--   optional     the first argument, if there is one
--   rest_of      the arguments behind the first
--   unless_more  what was taken, where no argument is left
--   none_or_one, one, one_or_two, one_to_three, one_to_four, two_or_three, two_to_four, two_to_five, two_to_six,
--   three_to_five, at_least_one, at_least_two   the arguments of a call with so many
use Rattle.std.specs.Prelude.{List, [], ◌∷◌, Option, Some, None, Result, Ok, Err}
use Rattle.value_core.specs.declared.error.Error.{Error}
use Rattle.value_core.specs.declared.error.Error.TheVariants.{ERROR}
use Rattle.result_core.specs.declared.found.Found.{Found}
use Rattle.argument_core.specs.declared.counts.OneOrTwo.{OneOrTwo}
use Rattle.argument_core.specs.declared.counts.OneToThree.{OneToThree}
use Rattle.argument_core.specs.declared.counts.OneToFour.{OneToFour}
use Rattle.argument_core.specs.declared.counts.TwoOrThree.{TwoOrThree}
use Rattle.argument_core.specs.declared.counts.TwoToFour.{TwoToFour}
use Rattle.argument_core.specs.declared.counts.TwoToFive.{TwoToFive}
use Rattle.argument_core.specs.declared.counts.TwoToSix.{TwoToSix}
use Rattle.argument_core.specs.declared.counts.ThreeToFive.{ThreeToFive}
use Rattle.argument_core.specs.Check.{after}

abbrev pub required : List Found → Result Found Error
required [] = Err ERROR
required (first ∷ rest) = Ok first

abbrev pub optional : List Found → Option Found
optional [] = None
optional (first ∷ rest) = Some first

abbrev pub rest_of : List Found → List Found
rest_of [] = []
rest_of (first ∷ rest) = rest

abbrev pub unless_more : {X : Type 0} → List Found → X → Result X Error
unless_more [] asked = Ok asked
unless_more (more ∷ rest) asked = Err ERROR

abbrev pub none_or_one : List Found → Result (Option Found) Error
none_or_one args = unless_more (rest_of args) (optional args)

abbrev pub one : List Found → Result Found Error
one args = after (required args) (unless_more (rest_of args))

abbrev pub one_or_two : List Found → Result OneOrTwo Error
one_or_two a = let b = rest_of a in
    after (required a) (λ first. unless_more (rest_of b) (record { first = first; second = optional b }))

abbrev pub one_to_three : List Found → Result OneToThree Error
one_to_three a = let b = rest_of a in let c = rest_of b in
    after (required a) (λ first. unless_more (rest_of c) (record { first = first; second = optional b; third = optional c }))

abbrev pub one_to_four : List Found → Result OneToFour Error
one_to_four a = let b = rest_of a in let c = rest_of b in let d = rest_of c in
    after (required a) (λ first. unless_more (rest_of d) (record { first = first; second = optional b; third = optional c; fourth = optional d }))

abbrev pub two_or_three : List Found → Result TwoOrThree Error
two_or_three a = let b = rest_of a in let c = rest_of b in
    after (required a) (λ first. after (required b) (λ second. unless_more (rest_of c) (record { first = first; second = second; third = optional c })))

abbrev pub two_to_four : List Found → Result TwoToFour Error
two_to_four a = let b = rest_of a in let c = rest_of b in let d = rest_of c in
    after (required a) (λ first. after (required b) (λ second.
    unless_more (rest_of d) (record { first = first; second = second; third = optional c; fourth = optional d })))

abbrev pub two_to_five : List Found → Result TwoToFive Error
two_to_five a = let b = rest_of a in let c = rest_of b in let d = rest_of c in let e = rest_of d in
    after (required a) (λ first. after (required b) (λ second.
    unless_more (rest_of e) (record { first = first; second = second; third = optional c; fourth = optional d; fifth = optional e })))

abbrev pub two_to_six : List Found → Result TwoToSix Error
two_to_six a = let b = rest_of a in let c = rest_of b in let d = rest_of c in let e = rest_of d in let f = rest_of e in
    after (required a) (λ first. after (required b) (λ second.
    unless_more (rest_of f) (record { first = first; second = second; third = optional c; fourth = optional d; fifth = optional e; sixth = optional f })))

abbrev pub three_to_five : List Found → Result ThreeToFive Error
three_to_five a = let b = rest_of a in let c = rest_of b in let d = rest_of c in let e = rest_of d in
    after (required a) (λ first. after (required b) (λ second. after (required c) (λ third.
    unless_more (rest_of e) (record { first = first; second = second; third = third; fourth = optional d; fifth = optional e }))))

abbrev pub at_least_one : List Found → Result (List Found) Error
at_least_one args = after (required args) (λ first. Ok args)

abbrev pub at_least_two : List Found → Result (Found × List Found) Error
at_least_two args = after (required args) (λ first. after (required (rest_of args)) (λ second. Ok (first, rest_of args)))
