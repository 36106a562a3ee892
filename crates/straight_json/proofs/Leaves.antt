-- The nodes without children, of what was found behind their tags.
--   corner-of, corner-more     where an end of a reference lies: at a place, and its tokens
--   leaf-any                   what stands at the place of the tag doesn't count
--   TAG-tagged                 the node of a tag
--   other-tagged               the node of any tag, by values
use Rattle.std.proofs.Common.{◌≡◌, ◌+◌, ℕ, ℤ, Bool, List, [], ◌∷◌, length, map, Option, Some, option_map, refl, sym, ap, ◌∙◌}
use Rattle.json.specs.Token.{Token}
use Rattle.json.specs.Json.{after_end_array}
use Rattle.serde_json.specs.Data.{Data, null}
use Rattle.serde_json.specs.Find.{as_bool, as_str}
use Rattle.serde_json.specs.View.{view}
use Rattle.serde_json.specs.declared.value.Value.{Value}
use Rattle.tree_core.specs.Formula.{bare_leaf, tree_of}
use Rattle.tree_core.specs.Label as label
use Rattle.tree_core.specs.declared.corner.Corner.{Corner}
use Rattle.tree_core.specs.declared.node.Node.{Node}
use Rattle.tree_core.specs.declared.node.Node.TheVariants.{BooleanKind, NumberKind, StringKind, ReferenceKind, RangeKind, NamedVariableKind}
use Rattle.tree_core.proofs.Trees.{tree_of-boolean, tree_of-number, tree_of-string, tree_of-reference, tree_of-range, tree_of-named_variable}
use Rattle.value_json.specs.ErrorValues.{error_at}
use Rattle.value_json.specs.Fields.{u32_in, u32_at, id_at, i32_at, i64_at, truth_at, text_at, name_at}
use Rattle.formula_json.specs.Formula.{node_with}
use Rattle.formula_json.specs.Leaves.{corner_at, boolean_of, number_of, text_of, error_of, empty_of, reference_of, range_of, wrong_reference_of, wrong_range_of, array_of, defined_name_of, table_of, variable_of, parse_error_of, leaf_of}
use Rattle.formula_json.specs.declared.tag.LeafTag.{LeafTag}
use Rattle.formula_json.specs.declared.tag.LeafTag.TheVariants.{Boolean, Number, Text, Error, Empty, Reference, Range, WrongReference, WrongRange, Array, DefinedName, Table, Variable, ParseError}
use Rattle.formula_json.specs.declared.tag.Tag.TheVariants.{Leaf}
use Rattle.straight_json.specs.Straight.{IsCorner, IsField, IsTagged, ReadsItems, i64_in, id_in, name_in}
use Rattle.straight_json.proofs.Steps.{items-end, items-more}

corner-of : (places : List Data) (n : ℕ) (k : Corner) → truth_at n places ≡ Some k.absolute_row → truth_at (n + 1) places ≡ Some k.absolute_column → i32_at (n + 2) places ≡ Some k.row → i32_at (n + 3) places ≡ Some k.column
    → corner_at n places ≡ Some k
unfolding corner_at
corner-of places n k e1 e2 e3 e4 = rw (e1, e2, e3, e4) refl

corner-more : (depth : ℕ) (t0 t1 new : List Token) (k : Corner) (ds : List Data) (c : IsCorner t0 k t1) → ReadsItems depth t1 ds new → ReadsItems depth t0 (c.3.0 ∷ c.4.0 ∷ c.5.0 ∷ c.6.0 ∷ ds) new
corner-more depth t0 t1 new k ds c rest =
    items-more depth t0 c.0 new c.3.0 (c.4.0 ∷ c.5.0 ∷ c.6.0 ∷ ds) (c.3.1 depth) (items-more depth c.0 c.1 new c.4.0 (c.5.0 ∷ c.6.0 ∷ ds) (c.4.1 depth) (items-more depth c.1 c.2 new c.5.0 (c.6.0 ∷ ds) (c.5.1 depth) (items-more depth c.2 t1 new c.6.0 ds (c.6.1 depth) rest)))

boolean-of : (places : List Data) (truth : Bool) → length places ≡ 2 → truth_at 1 places ≡ Some truth → boolean_of places ≡ Some (label.boolean truth)
unfolding boolean_of
boolean-of places truth long e1 = rw (long, e1) refl

pub boolean-tagged : (depth : ℕ) (t0 t1 new : List Token) (truth : Bool) → IsField as_bool t0 truth t1 → after_end_array t1 ≡ Some new → IsTagged depth (Leaf Boolean) t0 (BooleanKind truth) new
unfolding node_with leaf_of truth_at
boolean-tagged depth t0 t1 new truth f1 end = (
  f1.0 ∷ [],
  items-more depth t0 t1 new f1.0 [] (f1.1 depth) (items-end depth t1 new end),
  λ name. ap (option_map bare_leaf) (boolean-of (name ∷ f1.0 ∷ []) truth refl f1.2) ∙ ap Some (sym (tree_of-boolean truth)),
)

number-of : (places : List Data) (n : ℤ) → length places ≡ 2 → i64_at 1 places ≡ Some n → number_of places ≡ Some (label.number n)
unfolding number_of
number-of places n long e1 = rw (long, e1) refl

pub number-tagged : (depth : ℕ) (t0 t1 new : List Token) (n : ℤ) → IsField i64_in t0 n t1 → after_end_array t1 ≡ Some new → IsTagged depth (Leaf Number) t0 (NumberKind n) new
unfolding node_with leaf_of i64_at
number-tagged depth t0 t1 new n f1 end = (
  f1.0 ∷ [],
  items-more depth t0 t1 new f1.0 [] (f1.1 depth) (items-end depth t1 new end),
  λ name. ap (option_map bare_leaf) (number-of (name ∷ f1.0 ∷ []) n refl f1.2) ∙ ap Some (sym (tree_of-number n)),
)

text-of : (places : List Data) (text : List ℕ) → length places ≡ 2 → text_at 1 places ≡ Some text → text_of places ≡ Some (label.string text)
unfolding text_of
text-of places text long e1 = rw (long, e1) refl

pub text-tagged : (depth : ℕ) (t0 t1 new : List Token) (text : List ℕ) → IsField as_str t0 text t1 → after_end_array t1 ≡ Some new → IsTagged depth (Leaf Text) t0 (StringKind text) new
unfolding node_with leaf_of text_at
text-tagged depth t0 t1 new text f1 end = (
  f1.0 ∷ [],
  items-more depth t0 t1 new f1.0 [] (f1.1 depth) (items-end depth t1 new end),
  λ name. ap (option_map bare_leaf) (text-of (name ∷ f1.0 ∷ []) text refl f1.2) ∙ ap Some (sym (tree_of-string text)),
)

reference-of : (places : List Data) (name : Option (List ℕ)) (index : ℕ) (k : Corner) → length places ≡ 7 → u32_at 1 places ≡ Some index → name_at 2 places ≡ Some name → corner_at 3 places ≡ Some k
    → reference_of places ≡ Some (label.reference (record { name = name; index = index }) k)
unfolding reference_of
reference-of places name index k long e1 e2 e3 = rw (long, e1, e2, e3) refl

pub reference-tagged : (depth : ℕ) (t0 t1 t2 t3 new : List Token) (name : Option (List ℕ)) (index : ℕ) (k : Corner) → IsField u32_in t0 index t1 → IsField name_in t1 name t2 → IsCorner t2 k t3 → after_end_array t3 ≡ Some new
    → IsTagged depth (Leaf Reference) t0 (ReferenceKind name index k.absolute_row k.absolute_column k.row k.column) new
unfolding node_with leaf_of u32_at name_at truth_at i32_at i64_at
reference-tagged depth t0 t1 t2 t3 new name index k f1 f2 c end =
    let ends = c.3.0 ∷ c.4.0 ∷ c.5.0 ∷ c.6.0 ∷ [] in (
      f1.0 ∷ f2.0 ∷ ends,
      items-more depth t0 t1 new f1.0 (f2.0 ∷ ends) (f1.1 depth) (items-more depth t1 t2 new f2.0 ends (f2.1 depth) (corner-more depth t2 t3 new k [] c (items-end depth t3 new end))),
      λ tag. ap (option_map bare_leaf) (reference-of (tag ∷ f1.0 ∷ f2.0 ∷ ends) name index k refl f1.2 f2.2 (corner-of (tag ∷ f1.0 ∷ f2.0 ∷ ends) 3 k c.3.2 c.4.2 c.5.2 c.6.2))
          ∙ ap Some (sym (tree_of-reference name index k.absolute_row k.absolute_column k.row k.column)),
    )

range-of : (places : List Data) (name : Option (List ℕ)) (index : ℕ) (k l : Corner) → length places ≡ 11 → u32_at 1 places ≡ Some index → name_at 2 places ≡ Some name → corner_at 3 places ≡ Some k → corner_at 7 places ≡ Some l
    → range_of places ≡ Some (label.range (record { name = name; index = index }) k l)
unfolding range_of
range-of places name index k l long e1 e2 e3 e4 = rw (long, e1, e2, e3, e4) refl

pub range-tagged : (depth : ℕ) (t0 t1 t2 t3 t4 new : List Token) (name : Option (List ℕ)) (index : ℕ) (k l : Corner) → IsField u32_in t0 index t1 → IsField name_in t1 name t2 → IsCorner t2 k t3 → IsCorner t3 l t4 → after_end_array t4 ≡ Some new
    → IsTagged depth (Leaf Range) t0 (RangeKind name index k.absolute_row k.absolute_column k.row k.column l.absolute_row l.absolute_column l.row l.column) new
unfolding node_with leaf_of u32_at name_at truth_at i32_at i64_at
range-tagged depth t0 t1 t2 t3 t4 new name index k l f1 f2 c d end =
    let second = d.3.0 ∷ d.4.0 ∷ d.5.0 ∷ d.6.0 ∷ [] in
    let ends = c.3.0 ∷ c.4.0 ∷ c.5.0 ∷ c.6.0 ∷ second in (
      f1.0 ∷ f2.0 ∷ ends,
      items-more depth t0 t1 new f1.0 (f2.0 ∷ ends) (f1.1 depth) (items-more depth t1 t2 new f2.0 ends (f2.1 depth) (corner-more depth t2 t3 new k second c (corner-more depth t3 t4 new l [] d (items-end depth t4 new end)))),
      λ tag. ap (option_map bare_leaf) (range-of (tag ∷ f1.0 ∷ f2.0 ∷ ends) name index k l refl f1.2 f2.2 (corner-of (tag ∷ f1.0 ∷ f2.0 ∷ ends) 3 k c.3.2 c.4.2 c.5.2 c.6.2) (corner-of (tag ∷ f1.0 ∷ f2.0 ∷ ends) 7 l d.3.2 d.4.2 d.5.2 d.6.2))
          ∙ ap Some (sym (tree_of-range name index k.absolute_row k.absolute_column k.row k.column l.absolute_row l.absolute_column l.row l.column)),
    )

variable-of : (places : List Data) (name : List ℕ) (id : Option ℕ) → length places ≡ 3 → text_at 1 places ≡ Some name → id_at 2 places ≡ Some id → variable_of places ≡ Some (label.named_variable name id)
unfolding variable_of
variable-of places name id long e1 e2 = rw (long, e1, e2) refl

pub variable-tagged : (depth : ℕ) (t0 t1 t2 new : List Token) (name : List ℕ) (id : Option ℕ) → IsField as_str t0 name t1 → IsField id_in t1 id t2 → after_end_array t2 ≡ Some new → IsTagged depth (Leaf Variable) t0 (NamedVariableKind name id) new
unfolding node_with leaf_of text_at id_at
variable-tagged depth t0 t1 t2 new name id f1 f2 end = (
  f1.0 ∷ f2.0 ∷ [],
  items-more depth t0 t1 new f1.0 (f2.0 ∷ []) (f1.1 depth) (items-more depth t1 t2 new f2.0 [] (f2.1 depth) (items-end depth t2 new end)),
  λ tag. ap (option_map bare_leaf) (variable-of (tag ∷ f1.0 ∷ f2.0 ∷ []) name id refl f1.2 f2.2) ∙ ap Some (sym (tree_of-named_variable name id)),
)

leaf-any : (leaf : LeafTag) (a b : Data) (places : List Data) → leaf_of leaf (a ∷ places) ≡ leaf_of leaf (b ∷ places)
unfolding leaf_of u32_at id_at i64_at i32_at truth_at text_at name_at error_at corner_at boolean_of number_of text_of error_of empty_of reference_of range_of wrong_reference_of wrong_range_of array_of defined_name_of table_of variable_of parse_error_of
leaf-any Boolean a b places = refl
leaf-any Number a b places = refl
leaf-any Text a b places = refl
leaf-any Error a b places = refl
leaf-any Empty a b places = refl
leaf-any Reference a b places = refl
leaf-any Range a b places = refl
leaf-any WrongReference a b places = refl
leaf-any WrongRange a b places = refl
leaf-any Array a b places = refl
leaf-any DefinedName a b places = refl
leaf-any Table a b places = refl
leaf-any Variable a b places = refl
leaf-any ParseError a b places = refl

pub other-tagged : (depth : ℕ) (leaf : LeafTag) (t0 new : List Token) (values : List Value) (node : Node) → ReadsItems depth t0 (map view values) new → option_map bare_leaf (leaf_of leaf (null ∷ map view values)) ≡ Some (tree_of node)
    → IsTagged depth (Leaf leaf) t0 node new
unfolding node_with
other-tagged depth leaf t0 new values node reads is = (map view values, reads, λ name. ap (option_map bare_leaf) (leaf-any leaf name null (map view values)) ∙ is)
