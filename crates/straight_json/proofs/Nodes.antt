-- The nodes with children, of what was found behind their tags.
--   tagged-node       a tag and what stands behind it
--   nodes-more        formulas one after another, and one more
--   one-tagged, two-tagged    a node over one child, over two
--   call-tagged, named_call-tagged, intersection-tagged, lambda-tagged, lambda_call-tagged    the node of a tag
use Rattle.std.proofs.Common.{◌≡◌, ℕ, ◌-◌, ◌<◌, Bool, List, [], ◌∷◌, ◌++◌, length, map, slice_get, Option, Some, None, option_map, refl, sym, ap, ◌∙◌}
use Rattle.std.proofs.lemmas.List.{map-append}
use Rattle.json.specs.Token.{Token}
use Rattle.json.specs.Json.{after_end_array, value}
use Rattle.serde_json.specs.Data.{Data, string, array}
use Rattle.serde_json.specs.Find.{as_bool, as_str}
use Rattle.serde_json.specs.Read.{of_json, converted}
use Rattle.serde_json.specs.View.{items_of}
use Rattle.call_core.specs.declared.function.Function.{Function}
use Rattle.tree_core.specs.Formula.{one, two, tree_of}
use Rattle.tree_core.specs.Label.{Label, closed, call, named_call, lambda_definition, lambda_call}
use Rattle.tree_core.specs.Tree.{Tree, tree, more, forest, under}
use Rattle.tree_core.specs.declared.node.Node.{Node}
use Rattle.value_json.specs.Fields.{◌>>=◌, elements_of, id_at, truth_at, text_at}
use Rattle.value_json.specs.Texts.{texts_in}
use Rattle.value_json.specs.Traverse.{traverse}
use Rattle.formula_json.specs.Formula.{arguments_from, call_of, child_at, intersection_of, lambda_call_of, lambda_of, named_call_of, node_in, node_of, node_with, nodes_of, one_of, two_of}
use Rattle.formula_json.specs.Kinds.{kind_at}
use Rattle.formula_json.specs.Tags.{tag_at, tag_named}
use Rattle.formula_json.specs.declared.tag.Tag.{Tag}
use Rattle.formula_json.specs.declared.tag.Tag.TheVariants.{Call, Intersection, Lambda, LambdaCall, NamedCall}
use Rattle.straight_json.specs.Straight.{AreNodes, IsField, IsNode, IsTagged, Reads, ReadsItems, id_in, kind_in}
use Rattle.straight_json.proofs.Steps.{array-reads, items-end, items-more, string-reads}

-- ---- an array as a node

elements_of-items_of : (ds : List Data) → elements_of (items_of ds) ≡ ds
elements_of-items_of [] = refl
elements_of-items_of (d ∷ ds) = ap (λ places. d ∷ places) (elements_of-items_of ds)

nodes_of-items_of : (ds : List Data) → nodes_of (items_of ds) ≡ map node_of ds
unfolding nodes_of
nodes_of-items_of [] = refl
nodes_of-items_of (d ∷ ds) = ap (λ nodes. node_of d ∷ nodes) (nodes_of-items_of ds)

node_of-array : (ds : List Data) → node_of (array (items_of ds)) ≡ node_in ds (map node_of ds)
unfolding node_of
node_of-array ds = rw (elements_of-items_of, nodes_of-items_of) refl

pub tagged-node : (depth : ℕ) (old ts r : List Token) (name : List ℕ) (tag : Tag) (node : Node) → old ≡ Token.begin_array ∷ Token.string name ∷ ts → 0 < depth → tag_named name ≡ Some tag
    → IsTagged (depth - 1) tag ts node r → IsNode depth old node r
unfolding node_in tag_at text_at
tagged-node depth old ts r name tag node e some named it =
    let places = string name ∷ it.0 in (
      array (items_of places),
      ap (λ o. converted of_json (value depth o)) e
          ∙ array-reads depth (Token.string name ∷ ts) r places some (items-more (depth - 1) (Token.string name ∷ ts) ts r (string name) it.0 (string-reads (depth - 1) name ts) it.1),
      node_of-array places ∙ rw named (it.2 (string name)),
    )

-- ---- formulas one after another

abbrev with_one : Tree → Option (List Tree) → Option (List Tree)
with_one t found = option_map (λ trees. trees ++ t ∷ []) found

later-more : (first : Option Tree) (later : Option (List Tree)) (t : Tree) → (first >>= λ one. with_one t later >>= λ rest. Some (one ∷ rest)) ≡ with_one t (first >>= λ one. later >>= λ rest. Some (one ∷ rest))
later-more None later t = refl
later-more (Some one) None t = refl
later-more (Some one) (Some rest) t = refl

traverse-last : (done : List Data) (d : Data) (t : Tree) → node_of d ≡ Some t → traverse node_of (done ++ d ∷ []) ≡ with_one t (traverse node_of done)
traverse-last [] d t e = rw e refl
traverse-last (first ∷ done) d t e = ap (λ later. node_of first >>= λ one. later >>= λ rest. Some (one ∷ rest)) (traverse-last done d t e) ∙ later-more (node_of first) (traverse node_of done) t

pub nodes-more : (done : List Data) (d : Data) (nodes : List Node) (node : Node) → traverse node_of done ≡ Some (map tree_of nodes) → node_of d ≡ Some (tree_of node) → traverse node_of (done ++ d ∷ []) ≡ Some (map tree_of (nodes ++ node ∷ []))
nodes-more done d nodes node is e = traverse-last done d (tree_of node) e ∙ ap (with_one (tree_of node)) is ∙ ap Some (sym (map-append tree_of nodes (node ∷ [])))

pub traverse-places : (places : List Data) → traverse (λ node. node) (map node_of places) ≡ traverse node_of places
traverse-places [] = refl
traverse-places (d ∷ places) = ap (λ later. node_of d >>= λ found. later >>= λ rest. Some (found ∷ rest)) (traverse-places places)

-- ---- the nodes of the tags

one-of : (label : Label) (places : List Data) (nodes : List (Option Tree)) (child : Tree) → length places ≡ 2 → child_at 1 nodes ≡ Some child → one_of label places nodes ≡ Some (tree [] label (one child))
unfolding one_of
one-of label places nodes child long e1 = rw (long, e1) refl

pub one-tagged : (label : Label) (depth : ℕ) (t0 t1 new : List Token) (child node : Node) → IsNode depth t0 child t1 → after_end_array t1 ≡ Some new → tree_of node ≡ tree [] label (one (tree_of child))
    → (places : List Data) × ReadsItems depth t0 places new × ((name : Data) → one_of label (name ∷ places) (map node_of (name ∷ places)) ≡ Some (tree_of node))
unfolding child_at
one-tagged label depth t0 t1 new child node f1 end is = (
  f1.0 ∷ [],
  items-more depth t0 t1 new f1.0 [] f1.1 (items-end depth t1 new end),
  λ name. one-of label (name ∷ f1.0 ∷ []) (map node_of (name ∷ f1.0 ∷ [])) (tree_of child) refl f1.2 ∙ ap Some (sym is),
)

two-of : (label : Label) (places : List Data) (nodes : List (Option Tree)) (left right : Tree) → length places ≡ 3 → child_at 1 nodes ≡ Some left → child_at 2 nodes ≡ Some right → two_of label places nodes ≡ Some (tree [] label (two left right))
unfolding two_of
two-of label places nodes left right long e1 e2 = rw (long, e1, e2) refl

pub two-tagged : (label : Label) (depth : ℕ) (t0 t1 t2 new : List Token) (left right node : Node) → IsNode depth t0 left t1 → IsNode depth t1 right t2 → after_end_array t2 ≡ Some new → tree_of node ≡ tree [] label (two (tree_of left) (tree_of right))
    → (places : List Data) × ReadsItems depth t0 places new × ((name : Data) → two_of label (name ∷ places) (map node_of (name ∷ places)) ≡ Some (tree_of node))
unfolding child_at
two-tagged label depth t0 t1 t2 new left right node f1 f2 end is = (
  f1.0 ∷ f2.0 ∷ [],
  items-more depth t0 t1 new f1.0 (f2.0 ∷ []) f1.1 (items-more depth t1 t2 new f2.0 [] f2.1 (items-end depth t2 new end)),
  λ name. two-of label (name ∷ f1.0 ∷ f2.0 ∷ []) (map node_of (name ∷ f1.0 ∷ f2.0 ∷ [])) (tree_of left) (tree_of right) refl f1.2 f2.2 ∙ ap Some (sym is),
)

call-of : (places : List Data) (nodes : List (Option Tree)) (kind : Function) (arguments : List Tree) → kind_at 1 places ≡ Some kind → arguments_from 2 nodes ≡ Some arguments → call_of places nodes ≡ Some (tree [] (call kind) (forest arguments))
unfolding call_of
call-of places nodes kind arguments e1 e2 = rw (e1, e2) refl

pub call-tagged : (depth : ℕ) (t0 t1 new : List Token) (kind : Function) (arguments : List Node) (node : Node) → IsField kind_in t0 kind t1 → AreNodes depth t1 arguments new → tree_of node ≡ tree [] (call kind) (forest (map tree_of arguments))
    → IsTagged depth Call t0 node new
unfolding node_with kind_at arguments_from
call-tagged depth t0 t1 new kind arguments node f1 f2 is = (
  f1.0 ∷ f2.0,
  items-more depth t0 t1 new f1.0 f2.0 (f1.1 depth) f2.1,
  λ name. call-of (name ∷ f1.0 ∷ f2.0) (map node_of (name ∷ f1.0 ∷ f2.0)) kind (map tree_of arguments) f1.2 (traverse-places f2.0 ∙ f2.2) ∙ ap Some (sym is),
)

named_call-of : (places : List Data) (nodes : List (Option Tree)) (name : List ℕ) (id : Option ℕ) (arguments : List Tree) → text_at 1 places ≡ Some name → id_at 2 places ≡ Some id → arguments_from 3 nodes ≡ Some arguments
    → named_call_of places nodes ≡ Some (tree [] (closed (named_call name id)) (forest arguments))
unfolding named_call_of
named_call-of places nodes name id arguments e1 e2 e3 = rw (e1, e2, e3) refl

pub named_call-tagged : (depth : ℕ) (t0 t1 t2 new : List Token) (name : List ℕ) (id : Option ℕ) (arguments : List Node) (node : Node) → IsField as_str t0 name t1 → IsField id_in t1 id t2 → AreNodes depth t2 arguments new
    → tree_of node ≡ tree [] (closed (named_call name id)) (forest (map tree_of arguments)) → IsTagged depth NamedCall t0 node new
unfolding node_with text_at id_at arguments_from
named_call-tagged depth t0 t1 t2 new name id arguments node f1 f2 f3 is = (
  f1.0 ∷ f2.0 ∷ f3.0,
  items-more depth t0 t1 new f1.0 (f2.0 ∷ f3.0) (f1.1 depth) (items-more depth t1 t2 new f2.0 f3.0 (f2.1 depth) f3.1),
  λ tag. named_call-of (tag ∷ f1.0 ∷ f2.0 ∷ f3.0) (map node_of (tag ∷ f1.0 ∷ f2.0 ∷ f3.0)) name id (map tree_of arguments) f1.2 f2.2 (traverse-places f3.0 ∙ f3.2) ∙ ap Some (sym is),
)

intersection-of : (places : List Data) (nodes : List (Option Tree)) (automatic : Bool) (child : Tree) → length places ≡ 3 → truth_at 1 places ≡ Some automatic → child_at 2 nodes ≡ Some child → intersection_of places nodes ≡ Some (under automatic child)
unfolding intersection_of
intersection-of places nodes automatic child long e1 e2 = rw (long, e1, e2) refl

pub intersection-tagged : (depth : ℕ) (t0 t1 t2 new : List Token) (automatic : Bool) (child node : Node) → IsField as_bool t0 automatic t1 → IsNode depth t1 child t2 → after_end_array t2 ≡ Some new → tree_of node ≡ under automatic (tree_of child)
    → IsTagged depth Intersection t0 node new
unfolding node_with truth_at child_at
intersection-tagged depth t0 t1 t2 new automatic child node f1 f2 end is = (
  f1.0 ∷ f2.0 ∷ [],
  items-more depth t0 t1 new f1.0 (f2.0 ∷ []) (f1.1 depth) (items-more depth t1 t2 new f2.0 [] f2.1 (items-end depth t2 new end)),
  λ tag. intersection-of (tag ∷ f1.0 ∷ f2.0 ∷ []) (map node_of (tag ∷ f1.0 ∷ f2.0 ∷ [])) automatic (tree_of child) refl f1.2 f2.2 ∙ ap Some (sym is),
)

lambda-of : (places : List Data) (nodes : List (Option Tree)) (d : Data) (parameters : List (List ℕ)) (body : Tree) → length places ≡ 3 → slice_get places 1 ≡ Some d → texts_in d ≡ Some parameters → child_at 2 nodes ≡ Some body
    → lambda_of places nodes ≡ Some (tree [] (closed (lambda_definition parameters)) (one body))
unfolding lambda_of
lambda-of places nodes d parameters body long e0 e1 e2 = rw (long, e0, e1, e2) refl

pub lambda-tagged : (depth : ℕ) (t0 t1 t2 new : List Token) (d : Data) (parameters : List (List ℕ)) (body node : Node) → Reads depth t0 d t1 → texts_in d ≡ Some parameters → IsNode depth t1 body t2 → after_end_array t2 ≡ Some new
    → tree_of node ≡ tree [] (closed (lambda_definition parameters)) (one (tree_of body)) → IsTagged depth Lambda t0 node new
unfolding node_with child_at
lambda-tagged depth t0 t1 t2 new d parameters body node reads texts f2 end is = (
  d ∷ f2.0 ∷ [],
  items-more depth t0 t1 new d (f2.0 ∷ []) reads (items-more depth t1 t2 new f2.0 [] f2.1 (items-end depth t2 new end)),
  λ tag. lambda-of (tag ∷ d ∷ f2.0 ∷ []) (map node_of (tag ∷ d ∷ f2.0 ∷ [])) d parameters (tree_of body) refl refl texts f2.2 ∙ ap Some (sym is),
)

lambda_call-of : (nodes : List (Option Tree)) (lambda : Tree) (arguments : List Tree) → child_at 1 nodes ≡ Some lambda → arguments_from 2 nodes ≡ Some arguments → lambda_call_of nodes ≡ Some (tree [] (closed lambda_call) (more lambda (forest arguments)))
unfolding lambda_call_of
lambda_call-of nodes lambda arguments e1 e2 = rw (e1, e2) refl

pub lambda_call-tagged : (depth : ℕ) (t0 t1 new : List Token) (lambda : Node) (arguments : List Node) (node : Node) → IsNode depth t0 lambda t1 → AreNodes depth t1 arguments new → tree_of node ≡ tree [] (closed lambda_call) (more (tree_of lambda) (forest (map tree_of arguments)))
    → IsTagged depth LambdaCall t0 node new
unfolding node_with child_at arguments_from
lambda_call-tagged depth t0 t1 new lambda arguments node f1 f2 is = (
  f1.0 ∷ f2.0,
  items-more depth t0 t1 new f1.0 f2.0 f1.1 f2.1,
  λ name. lambda_call-of (map node_of (name ∷ f1.0 ∷ f2.0)) (tree_of lambda) (map tree_of arguments) f1.2 (traverse-places f2.0 ∙ f2.2) ∙ ap Some (sym is),
)
