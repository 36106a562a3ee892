-- What an export begins with.
--   IsFirst  the marks of a formula that comes back: the imported one without the `@`s that import put, or else that one itself
use Rattle.std.specs.Prelude.{◌≡◌, ◌⊎◌, Bool}
use Rattle.kind_table.specs.Table.{Table}
use Rattle.tree_core.specs.Tree.{Tree}
use Rattle.import_core.specs.declared.rule.ImportRule.{ImportRule}
use Rattle.import_core.specs.ComesBack.{ComesBack}
use Rattle.mark_core.specs.declared.mark.Mark.{Mark}
use Rattle.import_marks.specs.Marks.{marks}
use Rattle.mark_return.specs.Put.{without_put}

pub record IsFirst (which : ImportRule) (table : Table) (add : Bool) (import : Tree) (mark : Mark) : Type 0 where
  pub formula : Tree
  pub one_of : (formula ≡ without_put import) ⊎ (formula ≡ import)
  pub is : mark ≡ marks which table formula import
  pub comes_back : ComesBack which table add import formula
