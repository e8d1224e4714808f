-- What document 02's second inverse hands out: that there is one, and its answer; or that the kind has none, and nothing is written.
use Rattle.std.specs.Prelude.{ℕ, ◌≡◌, Bool, true, false, List, Float, Option, Some, None}
use Rattle.projection.specs.Answer.{Answer}
use Rattle.capi.specs.Answers.{Says}
use Rattle.capi.specs.Columns.{Column}

-- the places p, q and n before the call; what it gives; and the places after it
abbrev pub SaysSecond : Option Answer → Float → Float → ℕ → Bool → Float → Float → ℕ → Type 0
SaysSecond (Some answer) p q n r p' q' n' = (r ≡ true) × Says answer n' p' q'
SaysSecond None p q n r p' q' n' = (r ≡ false) × (p' ≡ p) × (q' ≡ q) × (n' ≡ n)

-- the same of a column: n' is 0 or 255, by the lengths
abbrev pub SecondColumn : Bool → (Float → Float → Answer) → List Float → List Float → List Float → List Float → List ℕ → ℕ
    → Bool → List Float → List Float → List ℕ → ℕ → Type 0
SecondColumn true call us vs ps qs ns n r ps' qs' ns' n' = (r ≡ true) × Column call us vs ps qs ns n' ps' qs' ns'
SecondColumn false call us vs ps qs ns n r ps' qs' ns' n' = (r ≡ false) × (ps' ≡ ps) × (qs' ≡ qs) × (ns' ≡ ns) × (n' ≡ n)
