-- A way and a kind by their letters on a sheet.
use Rattle.std.specs.Prelude.{ℕ, List, [], ◌∷◌, Bool, false, cond, ◌||◌, eqb, Result, Ok, Err}
use Prim.Native.Char.{code}
use Rattle.letters.specs.Ascii.{ascii}
use Rattle.letters.specs.declared.Kind.{Kind}
use Rattle.letters.specs.declared.Kind.TheVariants.{L, S, A, E, C, P, G}
use Rattle.letters.specs.declared.UnknownLetter.{UnknownLetter}
use Rattle.letters.specs.declared.Way.{Way}
use Rattle.letters.specs.declared.Way.TheVariants.{Forward, Inverse}

unfoldable pub one_of : List ℕ → ℕ → Bool
one_of [] b = false
one_of (k ∷ ks) b = eqb b k || one_of ks b

unfoldable pub is_way : ℕ → Bool
is_way b = one_of (ascii "FI") b

unfoldable pub is_kind : ℕ → Bool
is_kind b = one_of (ascii "ACEGLPS") b

-- F forward; any other letter inverse
unfoldable pub way_of : ℕ → Way
way_of b = cond (eqb b (code "F")) Forward Inverse

-- the kind by its letter; G for any other letter
unfoldable pub kind_of : ℕ → Kind
kind_of b =
    cond (eqb b (code "L")) L (cond (eqb b (code "S")) S (cond (eqb b (code "A")) A
    (cond (eqb b (code "E")) E (cond (eqb b (code "C")) C (cond (eqb b (code "P")) P G)))))

-- ---- what a letter on a sheet names, or that it names none

unfoldable pub way_from : ℕ → Result Way UnknownLetter
way_from b = cond (is_way b) (Ok (way_of b)) (Err (record { 0 = b }))

unfoldable pub kind_from : ℕ → Result Kind UnknownLetter
kind_from b = cond (is_kind b) (Ok (kind_of b)) (Err (record { 0 = b }))
