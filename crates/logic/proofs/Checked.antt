-- What a chain of tests that ends in `ok` says: each test passed, and each part was held.
use Prim.Native.Nat.{ℕ, suc}
use native.Mathlib.Omega.{arith}
use mathlib.Core.Path.{◌≡◌, refl, ap}
use mathlib.Core.Bool.{Bool, true, false}
use mathlib.Core.Option.{some}
use Rattle.logic.specs.Checked.{Checked, ok, refused, ◌>>=◌, ◌>>◌, guard, got}
use Rattle.logic.specs.promises.Refusal.{refusal}
use Rattle.logic.proofs.Tests.{none≢some, some_same}

module _ {A : Type 0} where
  pub not_ok : {k : ℕ} {a : A} → refused k ≡ ok a → ⊥
  not_ok e = let z : ◌≡◌ {A = ℕ} 0 1 = cc in omega arith

  pub ok_same : {a b : A} → ok a ≡ ok b → a ≡ b
  ok_same e = cc

pub bind_ok : {A B : Type 0} (c : Checked A) (f : A → Checked B) {b : B} → (c >>= f) ≡ ok b → (a : A) × (c ≡ ok a) × (f a ≡ ok b)
bind_ok (ok a) f e = (a, refl, e)
bind_ok (refused k) f e = absurd (not_ok e)

pub guard_ok : {B : Type 0} (k : ℕ) (t : Bool) (c : Checked B) {b : B} → (guard k t >> c) ≡ ok b → (t ≡ true) × (c ≡ ok b)
guard_ok k true c e = (refl, e)
guard_ok k false c e = absurd (not_ok e)

-- What was read, if something was.
pub got_some : {A : Type 0} (c : Checked A) {a : A} → got c ≡ some a → c ≡ ok a
unfolding got
got_some (ok a) e = ap ok (some_same e)
got_some (refused k) e = absurd (none≢some e)

-- Of a chain of tests with the refusal r, a test with another number passed.
pub guard_other : {A : Type 0} (k : ℕ) (t : Bool) (c : Checked A) {r : ℕ} → (k ≡ r → ⊥) → refusal (guard k t >> c) ≡ r → (t ≡ true) × (refusal c ≡ r)
guard_other k true c n e = (refl, e)
guard_other k false c n e = absurd (n e)

-- A chain of tests whose refusal is 0 has no test that fails.
pub guard_passed : {A : Type 0} (k : ℕ) (t : Bool) (c : Checked A) → refusal (guard (suc k) t >> c) ≡ 0 → (t ≡ true) × (refusal c ≡ 0)
guard_passed k t c e = guard_other (suc k) t c (λ h. omega (arith, h)) e
