-- Marks are only added, and a pair passes its mark on to pairs of smaller nodes only. So a pass from the last pair to the first leaves every
-- marked pair with all on which it depends marked; and with a pair every pair on which its truth can depend is marked, by induction on the steps
-- that lead there.
use Prim.Native.Nat.{ℕ, ◌+◌, ◌*◌, ◌-◌, ◌/◌, ◌%◌, ◌≤◌, ◌<◌}
use native.Mathlib.Omega.{arith}
use mathlib.Core.Path.{◌≡◌, sym, subst}
use mathlib.Core.List.{List}
use lib.ListN.{get_or, set}
use Rattle.blocks.specs.Bytes.{Bytes}
use Rattle.models.specs.Layout.{state_count}
use Rattle.questions.specs.Layout.{start_of, node_count}
use Rattle.evaluation.specs.promises.Reached.{Reached, itself, under_not, and_left, and_right, under_next}
use Rattle.relevance.specs.promises.Need.{Given, Marked, PassedOn, Needs}
use Rattle.prepared_question.proofs.Marks.{blank, one_only, one_there}

-- ---- the pass from the last pair to the first

-- The pairs from place k on have passed their marks on.
pub record Passing (m q : Bytes) (need : List ℕ) (k : ℕ) : Type 0 where
  pub root : Marked need (node_count q - 1) (start_of q)
  pub inside : (x : ℕ) → get_or need x 0 ≡ 1 → (x < 32 * node_count q) × (x % 32 < state_count m)
  pub closed : (x : ℕ) → k ≤ x → get_or need x 0 ≡ 1 → PassedOn m q need (x / 32) (x % 32)

module _ {m q : Bytes} (given : Given m q) where
  abbrev first : ℕ
  first = 32 * (node_count q - 1) + start_of q

  pub first_inside : (first < 1280) × (first < 32 * node_count q) × (first % 32 ≡ start_of q) × (start_of q < state_count m) × (state_count m ≤ 32)
  first_inside =
      let a = given.nodes.formed in
      let h : start_of q < state_count m = a.starts in
      let g : state_count m ≤ 32 = given.prepared.states in
      let n : 1 ≤ node_count q = a.some_node in
      let l : node_count q ≤ 40 = a.few_nodes in
      (omega arith, omega arith, omega arith, h, g)

  pub passing_start : Passing m q (set (blank 1280) first 1) (32 * node_count q)
  passing_start =
      let f = first_inside in
      record {
        root = one_there 1280 first f.0;
        inside = λ x e. subst (λ y. (y < 32 * node_count q) × (y % 32 < state_count m)) (sym (one_only 1280 first f.0 x e)) (f.1, subst (λ y. y < state_count m) (sym f.2) f.3);
        closed = λ x h e. absurd (omega (arith, one_only 1280 first f.0 x e, f.1));
      }

-- ---- what is reached is marked

module _ {m q : Bytes} {need : List ℕ} (given : Given m q) (needs : Needs m q need) where
  pub passed_at : (j t : ℕ) → t < state_count m → Marked need j t → PassedOn m q need j t
  passed_at j t h e =
      let g : state_count m ≤ 32 = given.prepared.states in
      let p : (32 * j + t) / 32 ≡ j = omega arith in
      let r : (32 * j + t) % 32 ≡ t = omega arith in
      subst (λ x. PassedOn m q need x t) p (subst (λ y. PassedOn m q need ((32 * j + t) / 32) y) r (needs.closed (32 * j + t) e))

  -- The truth of a needed pair depends on needed pairs only.
  pub reached_marked : {c s j t : ℕ} → Marked need c s → s < state_count m → Reached m q c s j t → Marked need j t × (t < state_count m)
  reached_marked e h itself = (e, h)
  reached_marked e h (under_not {j} {t} r o) = let w = reached_marked e h r in ((passed_at j t w.1 w.0).under_not o, w.1)
  reached_marked e h (and_left {j} {t} r o) = let w = reached_marked e h r in ((passed_at j t w.1 w.0).and_left o, w.1)
  reached_marked e h (and_right {j} {t} r o) = let w = reached_marked e h r in ((passed_at j t w.1 w.0).and_right o, w.1)
  reached_marked e h (under_next {j} {t} i o r p u) =
      let w = reached_marked e h r in ((passed_at j t w.1 w.0).under_next p i o u, given.prepared.inside t i o w.1 u)
