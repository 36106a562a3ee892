-- Formats that are filled with the members of an object, one after another.
--   entries_of-parsed          the members of a parsed object
--   Filled                     the members so far are formats, and the book of formats has what they say
--   filled_first, filled_more, filled_all   at the start, after one more, at the end
--   filled_refused             what a refusal at one member says of all
use Rattle.std.proofs.Common.{◌≡◌, ℕ, Bool, true, false, if◌then◌else◌, String, Global, string_bytes, List, [], ◌∷◌, ◌++◌, Option, Some, None, option_map, option_and_then, unwrap_or, Ok, refl, sym, ap, ◌∙◌, append_assoc, append-nil}
use Rattle.std.specs.Option.{option_or}
use Rattle.std.specs.Str.{bytes_eq}
use Rattle.serde_json.specs.Data.{Data, Members}
use Rattle.serde_json.specs.View.{view, members_view}
use Rattle.serde_json.specs.declared.value.Value.{Value}
use Rattle.value_json.specs.Fields.{◌>>=◌}
use Rattle.value_json.specs.Traverse.{traverse}
use Rattle.value_json.proofs.Traversal.{after}
use Rattle.units_core.specs.Formats.{parts_of}
use Rattle.units_core.specs.declared.formats.FirstPart.{FirstPart}
use Rattle.units_core.specs.declared.formats.FirstPart.TheVariants as part
use Rattle.units_core.specs.declared.formats.MapFormats.{MapFormats}
use Rattle.unit_json.specs.Format.{AddsFormat, entries_in, entries_of, entry_in, last_in, parts_with}

pub entries_of-parsed : (members : List (String Global × Value)) → entries_of (members_view members) ≡ entries_in members
entries_of-parsed [] = refl
entries_of-parsed (member ∷ members) = ap (λ entries. (string_bytes member.0, view member.1) ∷ entries) (entries_of-parsed members)

either : (b : Bool) (said : FirstPart) (later : Option FirstPart) (last : Option FirstPart)
    → option_or (if b then Some said else later) last ≡ (if b then Some said else option_or later last)
either true said later last = refl
either false said later last = refl

last_in-push : (said : List (List ℕ × FirstPart)) (one : List ℕ × FirstPart) (num_fmt : List ℕ)
    → last_in (said ++ one ∷ []) num_fmt ≡ (if bytes_eq num_fmt one.0 then Some one.1 else last_in said num_fmt)
last_in-push [] one num_fmt = refl
last_in-push (first ∷ said) one num_fmt =
    ap (λ later. option_or later (if bytes_eq num_fmt first.0 then Some first.1 else None)) (last_in-push said one num_fmt)
    ∙ either (bytes_eq num_fmt one.0) one.1 (last_in said num_fmt) (if bytes_eq num_fmt first.0 then Some first.1 else None)

known : (b : Bool) (said : FirstPart) (later : Option FirstPart) → unwrap_or (if b then Some said else later) part.None ≡ (if b then said else unwrap_or later part.None)
known true said later = refl
known false said later = refl

parts_with-push : (said : List (List ℕ × FirstPart)) (one : List ℕ × FirstPart) (num_fmt : List ℕ)
    → parts_with (said ++ one ∷ []) num_fmt ≡ (if bytes_eq num_fmt one.0 then one.1 else parts_with said num_fmt)
parts_with-push said one num_fmt =
    ap (λ last. unwrap_or last part.None) (last_in-push said one num_fmt) ∙ known (bytes_eq num_fmt one.0) one.1 (last_in said num_fmt)

-- the members that are left are `rest`
pub record Filled (all rest : List (String Global × Value)) (formats : MapFormats) : Type 0 where
  pub said : List (List ℕ × FirstPart)
  pub whole : traverse entry_in (entries_in all) ≡ after said (traverse entry_in (entries_in rest))
  pub has : (num_fmt : List ℕ) → parts_of formats num_fmt ≡ parts_with said num_fmt

after-none : (later : Option (List (List ℕ × FirstPart))) → later ≡ after [] later
after-none None = refl
after-none (Some later) = refl

pub filled_first : (all rest : List (String Global × Value)) (formats : MapFormats) → rest ≡ all → ((num_fmt : List ℕ) → parts_of formats num_fmt ≡ part.None) → Filled all rest formats
filled_first all rest formats e empty = record {
  said = [];
  whole = ap (λ members. traverse entry_in (entries_in members)) (sym e) ∙ after-none (traverse entry_in (entries_in rest));
  has = empty;
}

after-more : (said : List (List ℕ × FirstPart)) (one : List ℕ × FirstPart) (there : Option (List ℕ × FirstPart)) (later : Option (List (List ℕ × FirstPart)))
    → there ≡ Some one → after said (option_and_then (λ found. option_and_then (λ rest. Some (found ∷ rest)) later) there) ≡ after (said ++ one ∷ []) later
after-more said one there None e = ap (λ found. after said (option_and_then (λ found. None) found)) e
after-more said one there (Some later) e =
    ap (λ found. after said (option_and_then (λ found. Some (found ∷ later)) found)) e ∙ ap (λ found. Some found) (sym (append_assoc said (one ∷ []) later))

pub filled_more : (all rest later : List (String Global × Value)) (member : String Global × Value) (old new : MapFormats) (done : Unit {0})
    → rest ≡ member ∷ later → Filled all rest old → AddsFormat (Ok done) (parts_of old) (parts_of new) (entry_in (string_bytes member.0, view member.1)) → Filled all later new
filled_more all rest later member old new done e filled (one, there, sets) = record {
  said = filled.said ++ one ∷ [];
  whole = filled.whole
      ∙ ap (λ members. after filled.said (traverse entry_in (entries_in members))) e
      ∙ after-more filled.said one (entry_in (string_bytes member.0, view member.1)) (traverse entry_in (entries_in later)) there;
  has = λ num_fmt. sets num_fmt ∙ ap (λ known. if bytes_eq num_fmt one.0 then one.1 else known) (filled.has num_fmt) ∙ sym (parts_with-push filled.said one num_fmt);
}

after-refused : (said : List (List ℕ × FirstPart)) (there : Option (List ℕ × FirstPart)) (later : Option (List (List ℕ × FirstPart)))
    → there ≡ None → after said (option_and_then (λ found. option_and_then (λ rest. Some (found ∷ rest)) later) there) ≡ None
after-refused said there later e = ap (λ found. after said (option_and_then (λ found. option_and_then (λ rest. Some (found ∷ rest)) later) found)) e

pub filled_refused : (all rest later : List (String Global × Value)) (member : String Global × Value) (formats : MapFormats)
    → rest ≡ member ∷ later → Filled all rest formats → entry_in (string_bytes member.0, view member.1) ≡ None → traverse entry_in (entries_in all) ≡ None
filled_refused all rest later member formats e filled there =
    filled.whole
    ∙ ap (λ members. after filled.said (traverse entry_in (entries_in members))) e
    ∙ after-refused filled.said (entry_in (string_bytes member.0, view member.1)) (traverse entry_in (entries_in later)) there

after-all : (said : List (List ℕ × FirstPart)) → after said (Some []) ≡ Some said
after-all said = ap Some (append-nil said)

same-parts : (f g : List ℕ → FirstPart) → ((num_fmt : List ℕ) → f num_fmt ≡ g num_fmt) → f ≡ g
same-parts f g h = λ i num_fmt. h num_fmt i

pub filled_all : (all rest : List (String Global × Value)) (formats : MapFormats) → rest ≡ [] → Filled all rest formats
    → option_map parts_with (traverse entry_in (entries_in all)) ≡ Some (parts_of formats)
filled_all all rest formats e filled =
    ap (λ found. option_map parts_with found) (filled.whole ∙ ap (λ members. after filled.said (traverse entry_in (entries_in members))) e ∙ after-all filled.said)
    ∙ ap Some (sym (same-parts _ _ filled.has))

-- what an object is read as, once its members are known
pub object-there : (found : Option Members) (entries : List (List ℕ × Data)) → option_map entries_of found ≡ Some entries
    → option_map parts_with (found >>= (λ members. traverse entry_in (entries_of members))) ≡ option_map parts_with (traverse entry_in entries)
object-there None entries e = cc
object-there (Some members) entries e = let same : entries_of members ≡ entries = cc in ap (λ entries. option_map parts_with (traverse entry_in entries)) same

pub object-not : (found : Option Members) → option_map entries_of found ≡ None
    → option_map parts_with (found >>= (λ members. traverse entry_in (entries_of members))) ≡ None
object-not None e = refl
object-not (Some some) e = cc

-- for a reader of an object
pub ruleset parsed = (entries_of-parsed)
