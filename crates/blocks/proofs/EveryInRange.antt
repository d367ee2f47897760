-- What `all` of a range answers: whether every number of the range passes the test that the closure computes.
use Rattle.std.proofs.Common.{ℕ, ◌≡◌, refl, ap, ◌∙◌, Bool, arith}
use denote.Param.Members.{Mut, Called}
use Rattle.std.specs.Iterator.{ChecksAll}
use Rattle.std.specs.declared.ops.Range.{Range}
use Rattle.std.proofs.iter.Yields.{nat_range_steps}
use Rattle.std.proofs.lemmas.Iterator.{YieldsList-from_range}
use Rattle.std.proofs.lemmas.Iterator.Search.{all_from_yields_List}
use Rattle.logic.specs.Lists.{every}
use Rattle.blocks.proofs.EachOfMany.{all_range}

pub every_from_all : {F : Type 0} {g : Mut F (ℕ × Unit {0}) Bool} {n m : ℕ} {u : Range ℕ} {f : F} {r : Bool} (test : ℕ → Bool)
    → ChecksAll nat_range_steps g (record { start = 0; end = n }) f r u → n ≡ m
    → ((x : ℕ) (b : Bool) (q : F) → Called g f (x, tt) b q → (q ≡ f) × (b ≡ test x)) → r ≡ every m test
every_from_all {n = n} {u = u} {f = f} {r = r} test ran e calls =
    all_from_yields_List test u f r ran (YieldsList-from_range 0 n n refl (omega arith)) calls ∙ all_range test n ∙ ap (λ k. every k test) e
