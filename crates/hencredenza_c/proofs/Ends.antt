-- How a call ends.
--   text-asks, no-text   the command that words are which are a text, and which aren't
--   refused              a refusal that has its reason ends a run with its status, its line written
--   there                a reason, told of the command and the request themselves
--   fed                  a run that is fed is refused with the code 8 alone
--   sent, turned-away    a line that a command sends, or that a refusal has, handed over with its code
--   out                  where the code is 8, the result is that, or 1
use Rattle.std.proofs.Common.{◌≡◌, ℕ, Bool, true, false, cond, List, inl, inr, ◌⊎◌, refl, sym, ap, ◌∙◌, subst, arith, Option, Some, None}
use Rattle.std.specs.Str.{IsUtf8, is_utf8}
use Rattle.std.proofs.lemmas.Str.{IsUtf8-from_is_utf8, is_utf8-from_IsUtf8}
use Rattle.answer_core.specs.declared.command.Command.{Command}
use Rattle.answer_core.specs.declared.refusal.Refusal.{Refusal}
use Rattle.answer_core.specs.declared.refusal.Refusal.TheVariants.{Usage, ReadFault, TooLong, BadJson, BadRequest, Memory}
use Rattle.answer_core.specs.declared.status.Status.{Status}
use Rattle.answer_core.specs.declared.status.Status.TheVariants.{Done}
use Rattle.answer_core.specs.Command.{command_in_text}
use Rattle.answer_core.specs.Refusal.{line_of, status_of}
use Rattle.answer_core.specs.Run.{Trace, Ended, HasReason, IsFed, IsOutput}
use Rattle.answer_core.specs.Status.{code_of}
use Rattle.answer_core.proofs.Runs.{fed-refused}
use Rattle.hencredenza_c.specs.Handed.{Handed}
use Rattle.hencredenza_c.specs.Ran.{Ran, asked_for, over, taking}

pub text-asks : (words text : List ℕ) → text ≡ words → IsUtf8 words → command_in_text text ≡ asked_for words
text-asks words text same utf8 = ap command_in_text same ∙ sym (ap (λ is_text. cond is_text (command_in_text words) None) (is_utf8-from_IsUtf8 words utf8))

pub no-text : (words : List ℕ) → (IsUtf8 words → ⊥) → None ≡ asked_for words
no-text words other =
    elim (is_utf8 words) as (λ is_text. is_utf8 words ≡ is_text → None ≡ cond is_text (command_in_text words) None) [
      | true ↦ λ is. absurd (other (IsUtf8-from_is_utf8 words is))
      | false ↦ λ is. refl
    ] refl

refused : (command : Option Command) (source : Trace) (refusal : Refusal) → HasReason command source refusal
    → Ended command source (taking (line_of refusal)) (status_of refusal)
refused command source Usage reason = (reason, refl)
refused command source ReadFault reason = (reason, refl)
refused command source TooLong reason = (reason, refl)
refused command source BadJson reason = (reason, refl)
refused command source (BadRequest place) reason = (reason, refl)
refused command source Memory reason = (reason, refl)

module _ (named asked : Option Command) (same : named ≡ asked) (source request left : List ℕ) (all : source ≡ request) where
  there : (refusal : Refusal) → HasReason named (over source left) refusal → HasReason asked (over request left) refusal
  there refusal reason =
      subst (λ bytes. HasReason asked (over bytes left) refusal) all (subst (λ command. HasReason command (over source left) refusal) same reason)

  pub fed : (refusal : Refusal) → HasReason named (over source left) refusal → IsFed asked (Some request) → code_of (status_of refusal) ≡ 8
  fed refusal reason is_fed =
      ap (λ why. code_of (status_of why))
      (fed-refused (over request left) asked refusal (there refusal reason) is_fed (record { stays = refl; below_end = omega arith }))

  module _ (line text old new : List ℕ) (code told result : ℕ) (whole : text ≡ line) (handed : Handed code text old new told result) where
    pub sent : IsOutput named (over source left) line → code ≡ 0 → Ran asked request old new told result
    sent output is = record {
      line = line;
      code = code;
      runs = record {
        left = left;
        status = Done;
        ended = (line, subst (λ bytes. IsOutput asked (over bytes left) line) all (subst (λ command. IsOutput command (over source left) line) same output), refl);
        code_is = is;
      };
      handed = subst (λ bytes. Handed code bytes old new told result) whole handed;
    }

    pub turned-away : (refusal : Refusal) → line ≡ line_of refusal → HasReason named (over source left) refusal → code ≡ code_of (status_of refusal)
        → Ran asked request old new told result
    turned-away refusal says reason is = record {
      line = line_of refusal;
      code = code;
      runs = record {
        left = left;
        status = status_of refusal;
        ended = refused asked (over request left) refusal (there refusal reason);
        code_is = is;
      };
      handed = subst (λ bytes. Handed code bytes old new told result) (whole ∙ says) handed;
    }

pub out : (code : ℕ) (line old new : List ℕ) (told result : ℕ) → Handed code line old new told result → code ≡ 8 → (result ≡ 0) ⊎ (result ≡ 1) ⊎ (result ≡ 8)
out code line old new told result handed is = elim handed.room_is [
  | inl fits ↦ inr (inr (fits.2 ∙ is))
  | inr past ↦ inr (inl past.2)
]
