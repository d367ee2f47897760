-- The room of a list leaves room for each list that it is made of.
use Prim.Native.Nat.{ℕ, zero, suc, ◌+◌, ◌-◌, ◌*◌, ◌≤◌, ◌<◌}
use native.Mathlib.Nat.{le_trans, lt_of_not-le, lt_irrefl, lt_of_le_of_lt, le_of_lt, mul-lt-mul_of_pos_right, mul-le-mul_right, mul-le-mul_left, le-mul_of_pos_right, mul_comm}
use native.Mathlib.Omega.{arith}
use native.Mathlib.Decide.{dec_le}
use mathlib.Core.Path.{◌≡◌, refl, subst}
use Rattle.exact_plan.specs.promises.Room.{Spare, nothing, roots, Room}

-- Fewer steps take no more.
spare_less : {n root spare : ℕ} → Spare (suc n) root spare → (e : ℕ) × (e ≤ spare) × Spare n root e
spare_less (roots h nothing) = (0, omega arith, nothing)
spare_less (roots {root = root} h (roots g r)) = let u = spare_less (roots g r) in (root + u.0, omega (arith, u.1), roots h u.2)

root_le : (x r : ℕ) → x * x ≤ r * r → x ≤ r
root_le x r h = go (dec_le x r)
  where
    go : Dec (x ≤ r) → x ≤ r
    go (yes k) = k
    go (no k) =
        let l : r < x = lt_of_not-le k in
        absurd
        (lt_irrefl (x * x)
        (lt_of_le_of_lt (le_trans h (mul-le-mul_left r (le_of_lt l))) (mul-lt-mul_of_pos_right l (omega arith))))

module _ {n count at size : ℕ} (R : Room (suc n) count at size) where
  -- A part of the list, and what was made before it.
  pub room_part : {x : ℕ} (done : ℕ) → done + x ≤ count → Room (suc n) x (at + done) size
  room_part done h =
      record {
        root = R.root;
        spare = R.spare;
        few = omega (arith, R.few);
        small = omega (arith, R.small);
        chain = R.chain;
        fits = omega (arith, R.fits);
      }

  -- The first outcome's list, in its place.
  pub room_first : {x : ℕ} → x ≤ count → Room n x at size
  room_first h =
      let u = spare_less R.chain in
      record {
        root = R.root;
        spare = u.0;
        few = omega (arith, R.few);
        small = omega (arith, R.small);
        chain = u.2;
        fits = omega (arith, R.fits, u.1);
      }

  -- A further outcome's list, no longer than the first, behind its product with what there is.
  pub room_next : {x first len : ℕ} → x ≤ first → first ≤ len → 0 < len → len * x ≤ count → Room n x (at + len * x) size
  room_next {x} {first} {len} h g p e = go R.chain R.fits
    where
      square : x * x ≤ R.root * R.root
      square = le_trans (mul-le-mul_right x (le_trans h g)) (le_trans e R.small)

      single : x ≤ len * x
      single = subst (λ k. x ≤ k) (mul_comm x len) (le-mul_of_pos_right x p)

      go : {spare : ℕ} → Spare (suc n) R.root spare → at + count + spare ≤ size → Room n x (at + len * x) size
      go (roots {next = next} {spare = s} i c) f =
          record {
            root = next;
            spare = s;
            few = omega (arith, R.few, single);
            small = le_trans (root_le x R.root square) i;
            chain = c;
            fits = omega (arith, root_le x R.root square);
          }

fewer : (d n : ℕ) {m root spare : ℕ} → m ≡ d + n → Spare m root spare → (e : ℕ) × (e ≤ spare) × Spare n root e
fewer zero n {m} {root} {spare} q r = (spare, omega arith, subst (λ k. Spare k root spare) (let z : m ≡ n = omega arith in z) r)
fewer (suc d) n {m} {root} {spare} q r =
    let u = spare_less (subst (λ k. Spare k root spare) (let z : m ≡ suc (d + n) = omega arith in z) r) in
    let v = fewer d n refl u.2 in
    (v.0, omega (arith, u.1, v.1), v.2)

most : Spare 6 256 282
most = roots {root = 256} {next = 16} (omega arith) (roots {root = 16} {next = 4} (omega arith) (roots {root = 4} {next = 2} (omega arith) (roots {root = 2} {next = 2} (omega arith) (roots {root = 2} {next = 2} (omega arith) (roots {root = 2} {next = 2} (omega arith) nothing)))))

-- Up to six steps, and 282 numbers beside the list.
pub room_at : (n count at size : ℕ) → n ≤ 6 → count ≤ 65536 → at + count + 282 ≤ size → Room n count at size
room_at n count at size h f s =
    let u = fewer (6 - n) n (let z : 6 ≡ 6 - n + n = omega arith in z) most in
    record { root = 256; spare = u.0; few = f; small = omega arith; chain = u.2; fits = omega (arith, u.1) }
