-- The request that a number makes: it is valid, and small, and so are its import and its export.
--   only-memory      nothing but want of memory stands against it
--   few-nodes, few-cells   its nodes, and the cells that an array may have
--   imported-few, exported-few   the nodes of the imported and of the exported formula
use Rattle.std.proofs.Common.{◌≡◌, ℕ, ◌+◌, ◌*◌, ◌<◌, ◌≤◌, ◌^◌, true, Option, Some, None, length, refl, sym, ap, subst, ◌∙◌, arith}
use Rattle.tree_core.specs.Count.{size_of, size_of_all}
use Rattle.tree_core.specs.Tree.{Tree, tree, Trees, none, more}
use Rattle.kind_table.specs.CrateTable.{kinds}
use Rattle.import_core.specs.Rule.{Rule}
use Rattle.import_core.specs.Dropped.{Dropped}
use Rattle.import_core.specs.Imported.{Imported}
use Rattle.import_core.proofs.Exists.{import_is_a_function}
use Rattle.import_core.proofs.Sizes.{size_since}
use Rattle.import_core.proofs.Trimmed.{AllTrimmed, Trimmed, sub-length, trims_of}
use Rattle.validity_core.specs.declared.place.Place.{Place}
use Rattle.request_core.specs.Request.{Asked}
use Rattle.generator_core.specs.Formula.{total}
use Rattle.generator_core.specs.Request.{generated}
use Rattle.answer_core.specs.declared.refusal.Refusal.{Refusal}
use Rattle.answer_core.specs.declared.refusal.Refusal.TheVariants.{Usage, ReadFault, TooLong, BadJson, BadRequest, Memory}
use Rattle.answer_core.specs.Run.{RefusedBy, bad_of}

generated-valid : (seed : ℕ) → bad_of (generated seed) ≡ None
unfolding kinds
generated-valid seed = refl

valid-refused : (bad : Option Place) (refusal : Refusal) → bad ≡ None → RefusedBy bad refusal → refusal ≡ Memory
valid-refused bad Usage clear reason = absurd reason
valid-refused bad ReadFault clear reason = absurd reason
valid-refused bad TooLong clear reason = absurd reason
valid-refused bad BadJson clear reason = absurd reason
valid-refused bad (BadRequest place) clear reason = cc
valid-refused bad Memory clear reason = refl

pub only-memory : (seed : ℕ) (request : Asked) (refusal : Refusal) → request ≡ generated seed → RefusedBy (bad_of request) refusal → refusal ≡ Memory
only-memory seed request refusal is = valid-refused (bad_of request) refusal (ap bad_of is ∙ generated-valid seed)

total-size : size_of (total 40) ≡ 138
total-size = refl

pub few-nodes : (seed : ℕ) (request : Asked) → request ≡ generated seed → size_of request.formula ≤ 138
few-nodes seed request is = let same = ap (λ (r : Asked). size_of r.formula) is in omega (arith, same, total-size)

pub few-cells : (seed : ℕ) (request : Asked) → request ≡ generated seed → request.options.limit ≤ 16777216
few-cells seed request is = subst (λ (r : Asked). r.options.limit ≤ 16777216) (sym is) (omega arith)

mutual
  trimmed-size : (a b : Tree) → Trimmed a b → size_of a ≤ size_of b
  trimmed-size (tree r l ts) (tree s m us) h =
      let run = sub-length r s h.0 in let below = all_trimmed-sizes ts us h.1.1 in omega (arith, run, below)

  all_trimmed-sizes : (ts us : Trees) → AllTrimmed ts us → size_of_all ts ≤ size_of_all us
  all_trimmed-sizes none none h = omega arith
  all_trimmed-sizes none (more u us) h = absurd h
  all_trimmed-sizes (more t ts) none h = absurd h
  all_trimmed-sizes (more t ts) (more u us) h =
      let one = trimmed-size t u h.0 in let others = all_trimmed-sizes ts us h.1 in omega (arith, one, others)

pub imported-few : (rule : Rule) (given imported : Tree) → Imported rule true given imported → size_of given ≤ 138 → size_of imported ≤ 276
imported-few rule given imported h few =
    let most = size_since rule true given imported (import_is_a_function.only rule true given imported h) in omega (arith, most, few)

pub exported-few : (imported exported : Tree) → Dropped exported imported → size_of imported ≤ 276 → size_of exported ≤ 276
exported-few imported exported h few = let most = trimmed-size exported imported (trims_of exported imported h) in omega (arith, most, few)
