use Rattle.std.proofs.Common.{◌≡◌, ◌<◌, [], ◌∷◌, None, Some, length, map, string_bytes, sym, ap, ◌∙◌, subst, arith, rules}
use Rattle.std.proofs.lemmas.List.{map-append}
use Rattle.json.specs.Token.{Token}
use Rattle.json.specs.Json.{after_end_array, read_key, value}
use Rattle.json.proofs.Grammar.{read_key-shorter}
use Rattle.serde_json.specs.Data.{null, boolean, number, string, put}
use Rattle.serde_json.specs.Read.{of_json, converted}
use Rattle.serde_json.specs.View.{view, members_view, number_view}
use Rattle.serde_json.specs.declared.value.Value.{String, Number, Bool, Null, the_lemmas}
use Rattle.serde_json.proofs.Views.{view-Array, view-Object, members_view-insert_entry}
use Rattle.straight_json.specs.Straight.{Reads, ReadsMembers}
use Rattle.straight_json.proofs.Steps.{Passed, array-reads, boolean-reads, members-end, members-more, null-reads, number-reads, object-reads, passed-all, passed-more, string-reads}
use Rattle.straight_json.proofs.value.+value.Goals as goal

pub read_items-items-preserved : goal.read_items-items-preserved
read_items-items-preserved t c =
    let l = c.items in
    let going : (after_end_array l.reader ≡ None) × (c.take_end_array.new.self ≡ l.reader) = grind arith in
    let first : Reads c.args.depth l.reader (view c.in_ok-value.value) c.read_value.new.reader = rw (← going.1) c.in_ok-value.ensures.read in
    let less : length c.read_value.new.reader < length l.reader = rw (← going.1) c.in_ok-value.ensures.shorter in
    let more = passed-more c.args.depth c.args.reader.now l.reader c.read_value.new.reader (map view l.values.items) (view c.in_ok-value.value) l.invariant.0 first in (
      subst (λ ds. Passed c.args.depth c.args.reader.now ds c.read_value.new.reader) (sym (ap (map view) c.in_ok-push.ensures.items ∙ map-append view l.values.items (c.in_ok-value.value ∷ []))) more,
      omega (arith, l.invariant.1, less),
    )

pub read_items-returns-clause-read : goal.read_items-returns-clause-read
read_items-returns-clause-read t c =
    let l = c.items in
    passed-all c.args.depth c.args.reader.now l.reader c.take_end_array.new.self (map view l.values.items) l.invariant.0 (grind arith)

pub read_members-members-preserved : goal.read_members-members-preserved
read_members-members-preserved t c =
    let l = c.members in
    let before = members_view l.found.entries in
    let k = c.in-Some.name.now in
    let s = c.next_key.new.self in
    let d = view c.in_ok-value.value in
    let r = c.read_value.new.reader in
    let named : read_key l.reader ≡ Some (Some k, s) = grind arith in
    let less = read_key-shorter l.reader (Some k) s named in
    let lesser = c.in_ok-value.ensures.shorter in
    let copied : string_bytes c.in_ok-key.key ≡ k = search rules in
    let inserted : members_view c.insert.new.self.entries ≡ put k d before =
    ap members_view c.in_ok-insert.ensures.entries ∙ members_view-insert_entry l.found.entries c.in_ok-key.key c.in_ok-value.value ∙ ap (λ name. put name d before) copied in (
      (λ all new later. l.invariant.0 all new (members-more c.args.depth k l.reader s r new d before all named c.in_ok-value.ensures.read (subst (λ found. ReadsMembers c.args.depth r found all new) inserted later))),
      omega (arith, l.invariant.1, less, lesser),
    )

pub read_members-returns-in_default-next-clause-read : goal.read_members-returns-in_default-next-clause-read
read_members-returns-in_default-next-clause-read t c =
    let l = c.members in
    let closed : read_key l.reader ≡ Some (None, c.next_key.new.self) = grind arith in
    l.invariant.0 (members_view l.found.entries) c.next_key.new.self (members-end c.args.depth l.reader c.next_key.new.self (members_view l.found.entries) closed)

pub read_value-returns-in-Null-clause-read : goal.read_value-returns-in-Null-clause-read
read_value-returns-in-Null-clause-read t c =
    let is : c.args.reader.now ≡ Token.null ∷ c.next.new.self = grind arith in
    let seen : view (Null) ≡ null = search (rules, the_lemmas) in
    ap (λ ts. converted of_json (value c.args.depth ts)) is ∙ null-reads c.args.depth c.next.new.self ∙ ap (λ d. Some (d, c.next.new.self)) (sym seen)

pub read_value-returns-in-Bool-clause-read : goal.read_value-returns-in-Bool-clause-read
read_value-returns-in-Bool-clause-read t c =
    let is : c.args.reader.now ≡ Token.boolean c.in-Bool.truth ∷ c.next.new.self = grind arith in
    let seen : view (Bool c.in-Bool.truth) ≡ boolean c.in-Bool.truth = search (rules, the_lemmas) in
    ap (λ ts. converted of_json (value c.args.depth ts)) is ∙ boolean-reads c.args.depth c.in-Bool.truth c.next.new.self ∙ ap (λ d. Some (d, c.next.new.self)) (sym seen)

pub read_value-returns-in-Some-number-clause-read : goal.read_value-returns-in-Some-number-clause-read
read_value-returns-in-Some-number-clause-read t c =
    let is : c.args.reader.now ≡ Token.number c.in-Number.text.now ∷ c.next.new.self = grind arith in
    let seen : view (Number c.in-Some-number.number) ≡ number (number_view c.in-Some-number.number) = search (rules, the_lemmas) in
    ap (λ ts. converted of_json (value c.args.depth ts)) is ∙ number-reads c.args.depth c.in-Number.text.now (number_view c.in-Some-number.number) c.next.new.self c.in-Some-number.ensures ∙ ap (λ d. Some (d, c.next.new.self)) (sym seen)

pub read_value-returns-in_ok-from_str-in-String-clause-read : goal.read_value-returns-in_ok-from_str-in-String-clause-read
read_value-returns-in_ok-from_str-in-String-clause-read t c =
    let found = c.in_ok-from_str-in-String in
    let is : c.args.reader.now ≡ Token.string c.in-String.text.now ∷ c.next.new.self = grind arith in
    let seen : view (String found.field-0) ≡ string c.in-String.text.now = search (rules, the_lemmas) in
    ap (λ ts. converted of_json (value c.args.depth ts)) is ∙ string-reads c.args.depth c.in-String.text.now c.next.new.self ∙ ap (λ d. Some (d, c.next.new.self)) (sym seen)

pub read_value-returns-in_ok-read_items-in-BeginArray-clause-read : goal.read_value-returns-in_ok-read_items-in-BeginArray-clause-read
read_value-returns-in_ok-read_items-in-BeginArray-clause-read t c =
    let found = c.in_ok-read_items-in-BeginArray in
    let is : c.args.reader.now ≡ Token.begin_array ∷ c.next.new.self = grind arith in
    ap (λ ts. converted of_json (value c.args.depth ts)) is ∙ array-reads c.args.depth c.next.new.self c.read_items.new.reader (map view found.field-0.items) (omega arith) found.ensures.read
    ∙ ap (λ d. Some (d, c.read_items.new.reader)) (sym (view-Array found.field-0))

pub read_value-returns-in_ok-read_members-in-BeginObject-clause-read : goal.read_value-returns-in_ok-read_members-in-BeginObject-clause-read
read_value-returns-in_ok-read_members-in-BeginObject-clause-read t c =
    let found = c.in_ok-read_members-in-BeginObject in
    let is : c.args.reader.now ≡ Token.begin_object ∷ c.next.new.self = grind arith in
    ap (λ ts. converted of_json (value c.args.depth ts)) is ∙ object-reads c.args.depth c.next.new.self c.read_members.new.reader (members_view found.field-0.entries) (omega arith) found.ensures.read
    ∙ ap (λ d. Some (d, c.read_members.new.reader)) (sym (view-Object found.field-0))
