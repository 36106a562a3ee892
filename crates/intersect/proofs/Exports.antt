-- What comes of an imported formula whose candidates are dropped until none can go.
--   exports-by, exports-none   it is an export; so is a formula without `@`s
--   bare_first, whole_first    what it begins with, where all that import put can go at once, and where not
--   begin_counted, exports_counted, few_counted  how often the table was asked
use Rattle.std.proofs.Common.{◌≡◌, ℕ, ◌+◌, ◌*◌, ◌<◌, ◌≤◌, Bool, List, length, inl, inr, ◌⊎◌, refl, sym, ap, ◌∙◌, subst, arith}
use Rattle.std.proofs.Math.Nat.{mul-le-mul_left}
use Rattle.std.proofs.lemmas.Bool.{false≢true}
use Rattle.kind_table.specs.Table.{Table}
use Rattle.tree_core.specs.Count.{ats_of, calls_of}
use Rattle.tree_core.specs.Tree.{Tree}
use Rattle.tree_core.specs.Place.{Place}
use Rattle.import_core.specs.declared.rule.ImportRule.{ImportRule}
use Rattle.import_core.specs.ComesBack.{ComesBack}
use Rattle.import_core.specs.Dropped.{Dropped}
use Rattle.import_core.specs.Exported.{Exported}
use Rattle.import_core.specs.ImportRule.{import_rule}
use Rattle.import_core.proofs.Settle.{IsMonotone}
use Rattle.import_core.proofs.Trimmed.{Trimmed, dropped-itself, trimmed-itself, trims_of}
use Rattle.mark_core.specs.declared.mark.Mark.{Mark}
use Rattle.mark_core.specs.Mark.{ats_in, calls_in}
use Rattle.mark_core.specs.Sweep.{IsSettled}
use Rattle.mark_places.specs.Candidates.{candidates}
use Rattle.mark_places.specs.Left.{left_of}
use Rattle.mark_places.proofs.Counted.{candidates-few}
use Rattle.mark_places.proofs.Covers.{settled-all}
use Rattle.mark_return.specs.Put.{without_put}
use Rattle.mark_return.proofs.Puts.{put-bares, put-dropped}
use Rattle.import_marks.specs.Marks.{marks}
use Rattle.import_marks.proofs.State.{Bares, IsState, bares-itself, follows, ends}
use Rattle.intersect.specs.First.{IsFirst}
use Rattle.intersect.proofs.Counts.{ats-marks, calls-marks}
use Rattle.intersect.proofs.Lefts.{left-is}

first-bares : (import formula : Tree) → (formula ≡ without_put import) ⊎ (formula ≡ import) → Bares formula import
first-bares import formula (inl e) = subst (λ f. Bares f import) (sym e) (put-bares import)
first-bares import formula (inr e) = subst (λ f. Bares f import) (sym e) (bares-itself import)

first-dropped : (import formula : Tree) → (formula ≡ without_put import) ⊎ (formula ≡ import) → Dropped formula import
first-dropped import formula (inl e) = subst (λ f. Dropped f import) (sym e) (put-dropped import)
first-dropped import formula (inr e) = subst (λ f. Dropped f import) (sym e) (dropped-itself import)

first-state : (which : ImportRule) (table : Table) (add : Bool) (import : Tree) (mark : Mark) → IsFirst which table add import mark → IsState which table add import import mark
first-state which table add import mark first = record {
  export = first.formula;
  is = first.is;
  bares = first-bares import first.formula first.one_of;
  dropped = first-dropped import first.formula first.one_of;
  comes_back = first.comes_back;
}

module _ (which : ImportRule) (table : Table) (monotone : IsMonotone table) (add : Bool) (import : Tree) where
  pub exports-by : (old new : Mark) (places : List Place) (left : Tree) → IsFirst which table add import old → places ≡ candidates which table old add
      → IsSettled which table add old new places → left ≡ left_of import new → Exported (import_rule which table) add import left
  exports-by old new places left first listed settled built =
      let all = subst (IsSettled which table add old new) listed settled in
      let state : IsState which table add import import new = follows which table monotone add import import all.done old new all.follows (first-state which table add import old first) in
      let same : left ≡ state.export =
      built ∙ ap (left_of import) state.is ∙ left-is which table state.export import import state.bares (trims_of state.export import state.dropped) in
      subst (Exported (import_rule which table) add import) (sym same)
      (ends which table monotone add import import new state (λ place can. false≢true (sym (settled-all which table add old new all place) ∙ can)))

-- without `@`s nothing can be dropped
pub exports-none : (which : ImportRule) (table : Table) (add : Bool) (import copy : Tree) → ats_of import ≡ 0 → copy ≡ import → ComesBack which table add import import → Exported (import_rule which table) add import copy
exports-none which table add import copy bare same own = subst (Exported (import_rule which table) add import) (sym same) (record {
  dropped = dropped-itself import;
  comes_back = own;
  least = λ further one again. absurd (let fewer : ats_of import ≡ ats_of further + 1 = one.one_fewer in omega arith);
})

-- ---- what it begins with

module _ (which : ImportRule) (table : Table) (add : Bool) (import : Tree) where
  pub bare_first : (mark : Mark) → mark ≡ marks which table (without_put import) import → ComesBack which table add import (without_put import) → IsFirst which table add import mark
  bare_first mark is back = record { formula = without_put import; one_of = inl refl; is = is; comes_back = back }

  pub whole_first : (mark : Mark) → mark ≡ marks which table import import → ComesBack which table add import import → IsFirst which table add import mark
  whole_first mark is own = record { formula = import; one_of = inr refl; is = is; comes_back = own }

  pub calls_of-whole : (mark : Mark) → mark ≡ marks which table import import → calls_in mark ≤ calls_of import
  calls_of-whole mark is = subst (λ m. calls_in m ≤ calls_of import) (sym is) (calls-marks which table import import (trimmed-itself import))

  pub calls_of-bare : (mark : Mark) → mark ≡ marks which table (without_put import) import → calls_in mark ≤ calls_of import
  calls_of-bare mark is = subst (λ m. calls_in m ≤ calls_of import) (sym is) (calls-marks which table (without_put import) import (trims_of (without_put import) import (put-dropped import)))

-- ---- counts, from so many steps, with so many calls and `@`s

-- so many imports of all calls
abbrev bound : (calls n : ℕ) → ℕ
bound calls n = 2 * calls * (n + 1) * (n + 1)

bound-is : (calls n : ℕ) → bound calls n ≡ calls * (2 * ((n + 1) * (n + 1)))
bound-is calls n = omega arith

pub twice_counted : (calls from s t : ℕ) → s ≤ from + 2 * calls → t ≤ s + 2 * calls → t ≤ from + 4 * calls
twice_counted calls from s t h k = omega arith

pub some_at : (n ats : ℕ) → n ≡ ats → ¬ (n ≡ 0) → 0 < ats
some_at n ats is some = omega arith

pub few_counted : (calls n from s : ℕ) → s ≤ from + 2 * calls → s ≤ from + bound calls n
few_counted calls n from s h =
    let few : 2 ≤ 2 * ((n + 1) * (n + 1)) = omega arith in
    omega (arith, bound-is calls n, mul-le-mul_left calls few)

all_counted : (calls n a m c from s t : ℕ) → 0 < n → c ≤ calls → a ≤ n → m ≤ n → s ≤ from + 4 * calls → t ≤ s + ((a + 1) * m + a) * c → t ≤ from + bound calls n
all_counted calls n a m c from s t some fewer_calls fewer_ats few h k =
    let more_places : (a + 1) * m ≤ (a + 1) * n = mul-le-mul_left (a + 1) few in
    let more_ats : n * (a + 1) ≤ n * (n + 1) = mul-le-mul_left n (omega arith) in
    let tries : (a + 1) * m + a ≤ n * (n + 1) + n = omega (arith, more_places, more_ats) in
    let least : n * 1 ≤ n * n = mul-le-mul_left n (omega arith) in
    let room : 4 + (n * (n + 1) + n) ≤ 2 * ((n + 1) * (n + 1)) = omega (arith, least) in
    let each : ((a + 1) * m + a) * c ≤ ((a + 1) * m + a) * calls = mul-le-mul_left ((a + 1) * m + a) fewer_calls in
    let whole : calls * (4 + ((a + 1) * m + a)) ≤ calls * (2 * ((n + 1) * (n + 1))) = mul-le-mul_left calls (omega (arith, tries, room)) in
    omega (arith, each, whole, bound-is calls n)

pub exports_counted : (which : ImportRule) (table : Table) (add : Bool) (import : Tree) (old : Mark) (places : List Place) (from s t : ℕ) → 0 < ats_of import → IsFirst which table add import old
    → places ≡ candidates which table old add → s ≤ from + 4 * calls_of import → t ≤ s + ((ats_in old + 1) * length places + ats_in old) * calls_in old → t ≤ from + bound (calls_of import) (ats_of import)
exports_counted which table add import old places from s t some first listed h k =
    let part : Trimmed first.formula import = trims_of first.formula import (first-dropped import first.formula first.one_of) in
    let ats : ats_in old ≤ ats_of import = subst (λ m. ats_in m ≤ ats_of import) (sym first.is) (ats-marks which table first.formula import part) in
    let few : length places ≤ ats_in old = subst (λ ps. length ps ≤ ats_in old) (sym listed) (candidates-few which table old add) in
    all_counted (calls_of import) (ats_of import) (ats_in old) (length places) (calls_in old) from s t some
    (subst (λ m. calls_in m ≤ calls_of import) (sym first.is) (calls-marks which table first.formula import part)) ats (omega arith) h k

pub ruleset exports = (exports-none, few_counted)
