-- How the calls of a kind take their arguments. Places count from 0.
--   entry          the entry of a row at a place; past its end there is none
--   lasting_entry  the same of a row whose last entry goes on
--   is_odd         whether a number is odd
--   vector_if      a whole range or array where the fact holds, else one value
--   takes          whether a call with so many arguments is taken
--   place          how the argument at a place is taken, of so many that are taken
--   signature_by   how a call with so many arguments takes the one at a place
use Rattle.std.specs.Prelude.{ℕ, ◌+◌, ◌%◌, ◌==◌, nat_lt, nat_le, Bool, true, ◌&&◌, ◌||◌, if◌then◌else◌, [], ◌∷◌, slice_index_or}
use Rattle.kind_table.specs.declared.pattern.Leading.{Leading}
use Rattle.kind_table.specs.declared.pattern.Pattern.{Pattern}
use Rattle.kind_table.specs.declared.pattern.Pattern.TheVariants.{NoArgument, All, Scalars, Only, Fixed, From, Between, Last, Bindings, SortKeys, Folding}
use Rattle.kind_table.specs.declared.signature.Signature.{Signature}
use Rattle.kind_table.specs.declared.signature.Signature.TheVariants.{Scalar, Vector, Error}

abbrev pub entry : Leading → ℕ → Signature
entry row index = slice_index_or (row.0 ∷ row.1 ∷ row.2 ∷ row.3 ∷ row.4 ∷ row.5 ∷ []) index Error

abbrev pub lasting_entry : Leading → ℕ → Signature
lasting_entry row index = if nat_lt index 6 then entry row index else row.5

abbrev pub is_odd : ℕ → Bool
is_odd number = number % 2 == 1

abbrev pub vector_if : Bool → Signature
vector_if whole = if whole then Vector else Scalar

abbrev pub takes : Pattern → ℕ → Bool
takes NoArgument count = count == 0
takes (All signature) count = true
takes (Scalars least more) count = nat_le least count && nat_le count (least + more)
takes (Only least most row) count = nat_le least count && nat_le count most
takes (Fixed row) count = true
takes (From least row) count = nat_le least count
takes (Between least most row) count = nat_le least count && nat_le count most
takes (Last least last others) count = nat_le least count
takes Bindings count = nat_le 3 count && is_odd count
takes SortKeys count = count == 2 || (nat_le 3 count && is_odd count)
takes Folding count = count == 2 || count == 3

abbrev pub place : Pattern → ℕ → ℕ → Signature
place NoArgument count index = Error
place (All signature) count index = signature
place (Scalars least more) count index = Scalar
place (Only least most row) count index = entry row index
place (Fixed row) count index = entry row index
place (From least row) count index = lasting_entry row index
place (Between least most row) count index = lasting_entry row index
place (Last least last others) count index = if (index + 1 == count) then last else others
place Bindings count index = vector_if (is_odd index || index + 1 == count)
place SortKeys count index = vector_if (index == 0 || is_odd index)
place Folding count index = vector_if (index + 2 == count)

unfoldable pub signature_by : Pattern → ℕ → ℕ → Signature
signature_by pattern count index = if (nat_lt index count && takes pattern count) then place pattern count index else Error
