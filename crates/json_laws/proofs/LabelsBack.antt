-- A node is read back where its children are, by what stands at it.
--   Reads, AllRead  a formula is read back from its JSON form; each of some formulas
--   leaf_reads      a node without children
--   two_reads, one_reads   an operator between two sides, over one child
--   lambda_reads, lambda_call_reads, call_reads, named_call_reads, at_reads   the others
use Rattle.std.proofs.Common.{◌≡◌, ℕ, Bool, List, [], ◌∷◌, map, Option, Some, option_map, refl, ap, ◌∙◌, append-nil}
use Rattle.serde_json.specs.Data.{Data, boolean, string}
use Rattle.value_core.specs.declared.operator.Operator.{Operator}
use Rattle.value_core.specs.declared.operator.OpUnary.{OpUnary}
use Rattle.call_core.specs.declared.function.Function.{Function}
use Rattle.tree_core.specs.Formula.{one, two, bare_leaf}
use Rattle.tree_core.specs.Label.{Leaf, passing, binary, unary, spill, closed, call, range_operator, named_call, lambda_definition, lambda_call}
use Rattle.tree_core.specs.Tree.{Tree, tree, more, forest, under}
use Rattle.value_json.specs.InRange.{id_in_range}
use Rattle.value_json.specs.Piece.{tagged_list, number_or_null}
use Rattle.value_json.specs.Texts.{texts_data}
use Rattle.value_json.specs.Traverse.{traverse}
use Rattle.value_json.proofs.Places.{id_at-is, truth_at-is, text_at-is, texts_in-texts_data}
use Rattle.formula_json.specs.declared.tag.Tag.TheVariants as tag
use Rattle.formula_json.specs.Formula.{node_of, node_with, data_of, all_data, child_at, arguments_from, one_of, two_of, call_of, named_call_of, intersection_of, lambda_of, lambda_call_of}
use Rattle.formula_json.specs.Kinds.{kind_data}
use Rattle.formula_json.specs.Leaves.{leaf_own}
use Rattle.formula_json.specs.Tags.{leaf_name, leaf_sort, tag_name}
use Rattle.json_laws.specs.InRange.{kind_in_range, leaf_in_range}
use Rattle.json_laws.proofs.KindsBack.{kind_at-is}
use Rattle.json_laws.proofs.LeavesBack.{leaf_of-own}
use Rattle.json_laws.proofs.TagsBack.{node_of-tagged}

abbrev pub Reads : Tree → Type 0
Reads t = node_of (data_of t) ≡ Some t

abbrev pub AllRead : List Tree → Type 0
AllRead [] = Unit {0}
AllRead (t ∷ ts) = Reads t × AllRead ts

pub leaf_reads : (l : Leaf) → leaf_in_range l → Reads (bare_leaf l)
unfolding node_with
leaf_reads l fits =
    ap (λ own. node_of (tagged_list (leaf_name (leaf_sort l)) own)) (append-nil (leaf_own l))
    ∙ node_of-tagged (tag.Leaf (leaf_sort l)) (leaf_own l) ∙ ap (option_map bare_leaf) (leaf_of-own (leaf_name (leaf_sort l)) l fits)

pub binary_reads : (operator : Operator) (left right : Tree) → Reads left → Reads right → Reads (tree [] (passing (binary operator)) (two left right))
unfolding node_with two_of child_at
binary_reads operator left right left_reads right_reads = node_of-tagged (tag.Binary operator) (data_of left ∷ data_of right ∷ []) ∙ rw (left_reads, right_reads)

pub range_reads : (left right : Tree) → Reads left → Reads right → Reads (tree [] (closed range_operator) (two left right))
unfolding node_with two_of child_at
range_reads left right left_reads right_reads = node_of-tagged tag.RangeOperator (data_of left ∷ data_of right ∷ []) ∙ rw (left_reads, right_reads)

pub unary_reads : (kind : OpUnary) (child : Tree) → Reads child → Reads (tree [] (passing (unary kind)) (one child))
unfolding node_with one_of child_at
unary_reads kind child reads = node_of-tagged (tag.Unary kind) (data_of child ∷ []) ∙ rw reads

pub spill_reads : (child : Tree) → Reads child → Reads (tree [] spill (one child))
unfolding node_with one_of child_at
spill_reads child reads = node_of-tagged tag.Spill (data_of child ∷ []) ∙ rw reads

pub lambda_reads : (parameters : List (List ℕ)) (body : Tree) → Reads body → Reads (tree [] (closed (lambda_definition parameters)) (one body))
unfolding node_with lambda_of child_at
lambda_reads parameters body reads = node_of-tagged tag.Lambda (texts_data parameters ∷ data_of body ∷ []) ∙ rw (texts_in-texts_data parameters, reads)

all_read : (ts : List Tree) → AllRead ts → traverse (λ node. node) (map node_of (all_data (forest ts))) ≡ Some ts
all_read [] reads = refl
all_read (t ∷ ts) reads = rw (reads.0, all_read ts reads.1)

pub call_reads : (kind : Function) (arguments : List Tree) → kind_in_range kind → AllRead arguments → Reads (tree [] (call kind) (forest arguments))
unfolding node_with call_of arguments_from
call_reads kind arguments fits reads =
    node_of-tagged tag.Call (kind_data kind ∷ all_data (forest arguments))
    ∙ rw (kind_at-is 1 (string (tag_name tag.Call) ∷ kind_data kind ∷ all_data (forest arguments)) kind fits refl, all_read arguments reads)

pub named_call_reads : (name : List ℕ) (id : Option ℕ) (arguments : List Tree) → id_in_range id → AllRead arguments → Reads (tree [] (closed (named_call name id)) (forest arguments))
unfolding node_with named_call_of arguments_from
named_call_reads name id arguments fits reads =
    let places : List Data = string (tag_name tag.NamedCall) ∷ string name ∷ number_or_null id ∷ all_data (forest arguments) in
    node_of-tagged tag.NamedCall (string name ∷ number_or_null id ∷ all_data (forest arguments))
    ∙ rw (text_at-is 1 places name refl, id_at-is 2 places id refl fits, all_read arguments reads)

pub lambda_call_reads : (lambda : Tree) (arguments : List Tree) → Reads lambda → AllRead arguments → Reads (tree [] (closed lambda_call) (more lambda (forest arguments)))
unfolding node_with lambda_call_of child_at arguments_from
lambda_call_reads lambda arguments lambda_reads reads =
    node_of-tagged tag.LambdaCall (data_of lambda ∷ all_data (forest arguments)) ∙ rw (lambda_reads, all_read arguments reads)

data_of-under : (automatic : Bool) (t : Tree) → data_of (under automatic t) ≡ tagged_list (tag_name tag.Intersection) (boolean automatic ∷ data_of t ∷ [])
data_of-under automatic (tree run label ts) = refl

pub at_reads : (automatic : Bool) (t : Tree) → Reads t → Reads (under automatic t)
unfolding node_with intersection_of child_at
at_reads automatic t reads =
    ap node_of (data_of-under automatic t) ∙ node_of-tagged tag.Intersection (boolean automatic ∷ data_of t ∷ [])
    ∙ rw (truth_at-is 1 (string (tag_name tag.Intersection) ∷ boolean automatic ∷ data_of t ∷ []) automatic refl, reads)
