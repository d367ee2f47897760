-- Powers of a denominator of at most 100, to at most 6 steps, stay far below 2 to the 64.
use Prim.Native.Nat.{ℕ, suc, ◌+◌, ◌*◌, ◌^◌, ◌≤◌, ◌<◌}
use native.Mathlib.Nat.{le_trans, pow-suc, pow-le-pow_left, pow-le-pow_right}
use native.Mathlib.Numerals.{add-one}
use native.Mathlib.Omega.{arith}
use mathlib.Core.Path.{◌≡◌, ap}

pub power_le : (d i n : ℕ) → d ≤ 100 → i ≤ n → d ^ i ≤ 100 ^ n
power_le d i n h k = le_trans (pow-le-pow_left h i) (pow-le-pow_right {n = 100} (omega arith) k)

pub power_more : (d i : ℕ) {x : ℕ} → x ≡ d ^ i → x * d ≡ d ^ (i + 1)
power_more d i e = rw (add-one, pow-suc d i) (ap (λ z. z * d) e)

pub power_fits : (d i : ℕ) {x : ℕ} → d ≤ 100 → i < 6 → x ≡ d ^ i → x * d < 2 ^ 64
power_fits d i h k e =
    let l : d ^ suc i ≤ 100 ^ 6 = power_le d (suc i) 6 h k in
    omega (arith, power_more d i e, ap (λ j. d ^ j) (add-one i))
