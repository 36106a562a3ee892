-- The tokens of a value, an element or a member at a time.
--   string-reads, boolean-reads, null-reads, number-reads   values that are one token
--   reads-shorter            a value takes a token at least
--   items-end, items-more    the elements of an array: none; one and others
--   array-reads              an array
--   members-end, members-more    the members of an object: none; one and others
--   object-reads             an object
--   Passed                   that some elements stand before others
--   passed-none, passed-more, passed-all    at the first element; behind one more; behind the last
use Rattle.std.proofs.Common.{◌≡◌, ℕ, ◌-◌, ◌<◌, Bool, List, [], ◌∷◌, ◌++◌, length, Option, Some, None, option_map, refl, sym, ap, ◌∙◌, subst, append_assoc, append-nil, arith}
use Rattle.json.specs.Token.{Token}
use Rattle.json.specs.Json as json
use Rattle.json.specs.Json.{parse_map, after_end_array, read_key, items, members, value}
use Rattle.json.proofs.Grammar.{left, value_is, value-begin_array, value-begin_object, items_end, items_more, members_end, members_more, read_key-shorter, skip_value-shorter}
use Rattle.serde_json.specs.Data.{Data, Num, null, boolean, number, string, array, object, item, Members, no_members, put}
use Rattle.serde_json.specs.Read.{of_json, of_items, of_members, number_of, converted}
use Rattle.serde_json.specs.View.{items_of}
use Rattle.straight_json.specs.Straight.{Reads, ReadsItems, ReadsMembers}

-- ---- what was converted

abbrev pick : {A : Type 0} → A → Option A → A
pick d None = d
pick d (Some a) = a

both : {A B : Type 0} (a : A) (r s : List Token) (x : Option B) (b : B) → option_map {U = B × List Token} (λ y. (y, r)) x ≡ Some (b, s) → (r ≡ s) × (x ≡ Some b)
both a r s None b e = absurd (cc)
both a r s (Some y) b e = let same = ap (pick (y, r)) e in (ap (λ p. p.1) same, ap (λ p. Some p.0) same)

pub converted_some : {A B : Type 0} (f : A → Option B) (o : Option (A × List Token)) (b : B) (r : List Token) → converted f o ≡ Some (b, r) → (a : A) × (o ≡ Some (a, r)) × (f a ≡ Some b)
converted_some f None b r e = absurd (cc)
converted_some f (Some p) b r e = let parts = both p.0 p.1 r (f p.0) b e in (p.0, ap (λ s. Some (p.0, s)) parts.0, parts.1)

twice : {A B : Type 0} (g : A → B) (r : List Token) (x : Option A) → option_map (λ b. (b, r)) (option_map g x) ≡ parse_map g (option_map (λ a. (a, r)) x)
twice g r None = refl
twice g r (Some a) = refl

converted-array : (o : Option (json.Items × List Token)) → converted of_json (parse_map json.array o) ≡ parse_map array (converted of_items o)
converted-array None = refl
converted-array (Some p) = twice array p.1 (of_items p.0)

converted-object : (o : Option (json.Members × List Token)) → converted of_json (parse_map json.object o) ≡ parse_map object (converted (λ found. of_members found no_members) o)
converted-object None = refl
converted-object (Some p) = twice object p.1 (of_members p.0 no_members)

with_item : (j : json.Json) (d : Data) → of_json j ≡ Some d → (o : Option (json.Items × List Token)) → converted of_items (parse_map (json.item j) o) ≡ parse_map (item d) (converted of_items o)
with_item j d e None = refl
with_item j d e (Some p) = rw e (twice (item d) p.1 (of_items p.0))

with_member : (k : List ℕ) (j : json.Json) (d : Data) (before : Members) → of_json j ≡ Some d → (o : Option (json.Members × List Token))
    → converted (λ found. of_members found before) (parse_map (json.member k j) o) ≡ converted (λ found. of_members found (put k d before)) o
with_member k j d before e None = refl
with_member k j d before e (Some p) = rw e

-- ---- values that are one token

pub string-reads : (depth : ℕ) (s : List ℕ) (ts : List Token) → Reads depth (Token.string s ∷ ts) (string s) ts
string-reads depth s ts = ap (converted of_json) (value_is depth (Token.string s ∷ ts))

pub boolean-reads : (depth : ℕ) (truth : Bool) (ts : List Token) → Reads depth (Token.boolean truth ∷ ts) (boolean truth) ts
boolean-reads depth truth ts = ap (converted of_json) (value_is depth (Token.boolean truth ∷ ts))

pub null-reads : (depth : ℕ) (ts : List Token) → Reads depth (Token.null ∷ ts) null ts
null-reads depth ts = ap (converted of_json) (value_is depth (Token.null ∷ ts))

pub number-reads : (depth : ℕ) (s : List ℕ) (num : Num) (ts : List Token) → number_of s ≡ Some num → Reads depth (Token.number s ∷ ts) (number num) ts
number-reads depth s num ts is = ap (converted of_json) (value_is depth (Token.number s ∷ ts)) ∙ ap (λ o. option_map (λ b. (b, ts)) (option_map number o)) is

pub reads-shorter : (depth : ℕ) (ts r : List Token) (d : Data) → Reads depth ts d r → length r < length ts
reads-shorter depth ts r d reads = let j = converted_some of_json (value depth ts) d r reads in skip_value-shorter depth ts r (ap left j.1)

-- ---- the elements of an array

goes-on : (depth : ℕ) (ts : List Token) (d : Data) (r : List Token) → Reads depth ts d r → after_end_array ts ≡ None
goes-on depth [] d r e = refl
goes-on depth (Token.begin_object ∷ ts) d r e = refl
goes-on depth (Token.end_object ∷ ts) d r e = refl
goes-on depth (Token.begin_array ∷ ts) d r e = refl
goes-on depth (Token.end_array ∷ ts) d r e = let none : converted of_json (value depth (Token.end_array ∷ ts)) ≡ None = ap (converted of_json) (value_is depth (Token.end_array ∷ ts)) in absurd (cc)
goes-on depth (Token.key s ∷ ts) d r e = refl
goes-on depth (Token.string s ∷ ts) d r e = refl
goes-on depth (Token.number s ∷ ts) d r e = refl
goes-on depth (Token.boolean b ∷ ts) d r e = refl
goes-on depth (Token.null ∷ ts) d r e = refl
goes-on depth (Token.bad ∷ ts) d r e = refl

item_read : (depth n : ℕ) (ts r : List Token) (d : Data) → 0 < n → after_end_array ts ≡ None → Reads depth ts d r
    → converted of_items (items (value depth) n ts) ≡ parse_map (item d) (converted of_items (items (value depth) (n - 1) r))
item_read depth n ts r d some going e =
    let j = converted_some of_json (value depth ts) d r e in ap (converted of_items) (items_more (value depth) n ts r j.0 some going j.1) ∙ with_item j.0 d j.2 _

pub items-end : (depth : ℕ) (ts r : List Token) → after_end_array ts ≡ Some r → ReadsItems depth ts [] r
items-end depth ts r e n enough = ap (converted of_items) (items_end (value depth) n ts r enough e)

pub items-more : (depth : ℕ) (ts s r : List Token) (d : Data) (ds : List Data) → Reads depth ts d s → ReadsItems depth s ds r → ReadsItems depth ts (d ∷ ds) r
items-more depth ts s r d ds first rest n enough =
    let shorter = reads-shorter depth ts s d first in
    item_read depth n ts s d (omega (arith, shorter, enough)) (goes-on depth ts d s first) first ∙ ap (parse_map (item d)) (rest (n - 1) (omega (arith, shorter, enough)))

pub array-reads : (depth : ℕ) (ts r : List Token) (ds : List Data) → 0 < depth → ReadsItems (depth - 1) ts ds r → Reads depth (Token.begin_array ∷ ts) (array (items_of ds)) r
array-reads depth ts r ds some rest = ap (converted of_json) (value-begin_array depth ts some) ∙ converted-array (items (value (depth - 1)) (length ts) ts) ∙ ap (parse_map array) (rest (length ts) (omega arith))

-- ---- elements that were passed

abbrev pub Passed : ℕ → List Token → List Data → List Token → Type 0
Passed depth start done now = (rest : List Data) (new : List Token) → ReadsItems depth now rest new → ReadsItems depth start (done ++ rest) new

pub passed-none : (depth : ℕ) (ts : List Token) → Passed depth ts [] ts
passed-none depth ts rest new reads = reads

pub passed-more : (depth : ℕ) (start now next : List Token) (done : List Data) (d : Data) → Passed depth start done now → Reads depth now d next → Passed depth start (done ++ d ∷ []) next
passed-more depth start now next done d passed first rest new reads =
    subst (λ ds. ReadsItems depth start ds new) (sym (append_assoc done (d ∷ []) rest)) (passed (d ∷ rest) new (items-more depth now next new d rest first reads))

pub passed-all : (depth : ℕ) (start now new : List Token) (done : List Data) → Passed depth start done now → after_end_array now ≡ Some new → ReadsItems depth start done new
passed-all depth start now new done passed end =
    subst (λ ds. ReadsItems depth start ds new) (append-nil done) (passed [] new (items-end depth now new end))

-- ---- the members of an object

pub members-more : (depth : ℕ) (k : List ℕ) (ts s r rest : List Token) (d : Data) (before all : Members) → read_key ts ≡ Some (Some k, s) → Reads depth s d r
    → ReadsMembers depth r (put k d before) all rest → ReadsMembers depth ts before all rest
members-more depth k ts s r rest d before all key first later n enough =
    let j = converted_some of_json (value depth s) d r first in
    let shorter = reads-shorter depth s r d first in
    let named : length s < length ts = read_key-shorter ts (Some k) s key in
    ap (converted (λ found. of_members found before)) (members_more (value depth) n k ts s r j.0 (omega (arith, shorter, named, enough)) key j.1)
    ∙ with_member k j.0 d before j.2 _
    ∙ later (n - 1) (omega (arith, shorter, named, enough))

pub members-end : (depth : ℕ) (ts r : List Token) (all : Members) → read_key ts ≡ Some (None, r) → ReadsMembers depth ts all all r
members-end depth ts r all e n enough = ap (converted (λ found. of_members found all)) (members_end (value depth) n ts r enough e)

pub object-reads : (depth : ℕ) (ts r : List Token) (all : Members) → 0 < depth → ReadsMembers (depth - 1) ts no_members all r → Reads depth (Token.begin_object ∷ ts) (object all) r
object-reads depth ts r all some rest =
    ap (converted of_json) (value-begin_object depth ts some) ∙ converted-object (members (value (depth - 1)) (length ts) ts) ∙ ap (parse_map object) (rest (length ts) (omega arith))
