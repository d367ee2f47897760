use Rattle.std.proofs.Common.{ℕ, ◌≡◌, ◌<◌, Bool}
use Rattle.logic.specs.Lists.{every}
use Rattle.blocks.proofs.all_pass.Given as goal

-- The numbers before k passed exactly when `right` is true.
abbrev pub invariant-loop-k : goal.invariant-loop-k
invariant-loop-k g l = (test : ℕ → Bool) → ((i : ℕ) (r : Bool) → i < l.n → goal.F-post g l.passes i r → r ≡ test i) → l.right ≡ every l.k test
