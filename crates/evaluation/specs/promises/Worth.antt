-- What a path is worth to a search, and what is known of it where as many steps are taken as it looks ahead.
use Rattle.std.specs.Prelude.{ℕ, ◌*◌, ◌-◌, ◌≤◌, ◌<◌, ◌≡◌, List, [], ◌∷◌, ◌++◌, ℤ, pos, nat_abs, ◌+ℤ◌, ◌-ℤ◌, get_or, length}
use Rattle.logic.specs.Model.{Step}
use Rattle.logic.specs.promises.Total.{value_of}
use Rattle.logic.specs.promises.Raised.{raised}
use Rattle.blocks.specs.Bytes.{Bytes}
use Rattle.prepared_model.specs.promises.Rows.{model_in}
use Rattle.prepared_question.specs.promises.Nodes.{formula}
use Rattle.evaluation.specs.promises.Path.{steps_of}
use Rattle.evaluation.specs.promises.Reached.{root_of}
use Rattle.evaluation.specs.promises.Learnt.{known}

-- With nodes in the cone, the value of the condition at its root; with none, the raised gain of the steps after the first a, up to step d.
unfoldable pub worth_of : (m q : Bytes) (start a d : ℕ) (cone : List ℕ) → List Step → ℕ
worth_of m q start a d [] ρ = raised a d ρ
worth_of m q start a d (c ∷ cone) ρ = value_of (model_in m) (formula q (root_of (c ∷ cone))) start ρ

-- Of the path that begins with the trail t and goes on with r.
abbrev pub worth_on : (m q : Bytes) (start a d : ℕ) (cone t : List ℕ) → List Step → ℕ
worth_on m q start a d cone t r = worth_of m q start a d cone (steps_of m start t ++ r)

-- The gain of the steps after the first a, up to step d, and 1000 for each of them; gains are the sums of the rewards of the first 0, 1, ..
-- steps.
abbrev pub raised_known : List ℤ → (a d : ℕ) → ℤ
raised_known gains a d = (get_or gains d (pos 0) -ℤ get_or gains a (pos 0)) +ℤ pos (1000 * (d - a))

-- What `worth` reads: the value of the cone's root at the first place, or the raised gain, which is not below 0.
unfoldable pub worth_known : (cone : List ℕ) → List ℤ → List ℕ → (a d : ℕ) → ℕ
worth_known [] gains v a d = nat_abs (raised_known gains a d)
worth_known (c ∷ cone) gains v a d = known v (root_of (c ∷ cone)) 0

-- What it asks of them.
pub record Readable (cone : List ℕ) (gains : List ℤ) (a d : ℕ) : Type 0 where
  pub from : a ≤ d
  pub steps : d < 7
  pub natural : length cone ≡ 0 → raised_known gains a d ≡ pos (nat_abs (raised_known gains a d))
