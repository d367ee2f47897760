-- Sums over choices, plan or not, stay far below 2 to the 64: the weights of a choice's outcomes sum to the denominator.
use Prim.Native.Nat.{ℕ, zero, suc, ◌+◌, ◌*◌, ◌^◌, ◌≤◌, ◌<◌}
use native.Mathlib.Omega.{arith}
use native.Mathlib.Nat.{add_assoc, mul-le-mul_left, add-mul, mul_comm, mul_assoc, pow-zero, pow-suc}
use mathlib.Core.Path.{◌≡◌, refl, sym, ap, subst, ◌∙◌}
use mathlib.Core.Bool.{Bool, true, false, false≢true}
use mathlib.Core.List.Memᴰ
use mathlib.Core.List.{List, [], ◌∷◌, ◌++◌, Memᴰ}
use lib.Dec.{eqb}
use lib.ListN.{get_or, length, drop}
use Rattle.logic.specs.Lists.{any}
use Rattle.logic.specs.Model.{Model, Step, enabled, outcomes}
use Rattle.logic.specs.Accepted.{Accepted, Executable}
use Rattle.logic.specs.Quantity.{naturals, sum}
use Rattle.logic.specs.promises.Raised.{Modest, ModestRewards}
use Rattle.logic.proofs.Reading.{any_member, member_any}
use Rattle.logic.proofs.WholeTotals.{AllModest}
use Rattle.evaluation.proofs.PathWorth.{modest_cons}
use Rattle.plan_choices.specs.promises.PlanSum.{Run, each, weigh}

-- One outcome more, at the end.
pub each_more : (f : Step → List ℕ → Run) (l : List Step) (o : Step) (cs : List ℕ)
    → each f (l ++ (o ∷ [])) cs ≡ ((each f l cs).0 + o.weight * (f o (each f l cs).1).0, (f o (each f l cs).1).1)
unfolding each
each_more f [] o cs = ap (λ v. (v, (f o cs).1)) (omega arith)
each_more f (p ∷ l) o cs =
    let x : Run = f p cs in
    let y : Run = each f l x.1 in
    ap (λ (z : Run). (p.weight * x.0 + z.0, z.1)) (each_more f l o x.1)
    ∙ ap (λ v. (v, (f o y.1).1)) (sym (add_assoc (p.weight * x.0) y.0 (o.weight * (f o y.1).0)))

-- Where the sum below each outcome is at most B.
pub each_small : (f : Step → List ℕ → Run) (B : ℕ) (l : List Step) → ((o : Step) → Memᴰ o l → (cs : List ℕ) → (f o cs).0 ≤ B)
    → (cs : List ℕ) → (each f l cs).0 ≤ sum naturals (λ o. o.weight) l * B
unfolding each sum
each_small f B [] h cs = omega arith
each_small f B (o ∷ l) h cs =
    omega (
      arith,
      mul-le-mul_left o.weight (h o (Memᴰ.head refl) cs),
      each_small f B l (λ p i. h p (Memᴰ.tail i)) (f o cs).1,
      add-mul o.weight (sum naturals (λ o. o.weight) l) B,
    )

module _ (M : Model) (A : Accepted M) (R : ModestRewards M) where
  -- Below a choice, whether it is enabled or not.
  choice_small : (f : Step → List ℕ → Run) (B s a : ℕ) → s < length M.states
      → ((o : Step) → o.target < length M.states → Modest o.reward → (cs : List ℕ) → (f o cs).0 ≤ B) → (cs : List ℕ) → (each f (outcomes M s a) cs).0 ≤ M.denominator * B
  unfolding each
  choice_small f B s a l h cs = go (any (eqb a) (enabled M s)) refl
    where
      go : (t : Bool) → any (eqb a) (enabled M s) ≡ t → (each f (outcomes M s a) cs).0 ≤ M.denominator * B
      go true e =
          let x : Executable M s a = record { state = l; choice = any_member a (enabled M s) e } in
          subst (λ d. (each f (outcomes M s a) cs).0 ≤ d * B) (A.sums x) (each_small f B (outcomes M s a) (λ o i. h o (A.inside x o i) (R.modest x o i)) cs)
      go false e =
          let n : outcomes M s a ≡ [] = A.defined s a l (λ i. false≢true (sym e ∙ member_any i)) in
          subst (λ os. (each f os cs).0 ≤ M.denominator * B) (sym n) (omega arith)

  -- Where a path with modest rewards is worth at most b.
  pub weigh_small : (b k s : ℕ) (f : List Step → ℕ) → ((r : List Step) → AllModest r → f r ≤ b) → s < length M.states → (cs : List ℕ)
      → (weigh M k s f cs).0 ≤ b * M.denominator ^ k
  unfolding weigh
  weigh_small b zero s f h l cs = rw (pow-zero M.denominator) (omega (arith, h [] (λ o i. absurd (Memᴰ.not-nil i))))
  weigh_small b (suc k) s f h l cs =
      let D : ℕ = M.denominator in
      let e : D * (b * D ^ k) ≡ b * D ^ suc k = sym (mul_assoc D b (D ^ k)) ∙ ap (λ z. z * D ^ k) (mul_comm D b) ∙ mul_assoc b D (D ^ k) ∙ ap (λ z. b * z) (mul_comm D (D ^ k) ∙ sym (pow-suc D k)) in
      subst (λ z. (weigh M (suc k) s f cs).0 ≤ z) e
      (choice_small (λ o. weigh M k o.target (λ r. f (o ∷ r))) (b * D ^ k) s (get_or cs 0 0) l
      (λ o i g ds. weigh_small b k o.target (λ r. f (o ∷ r)) (λ r j. h (o ∷ r) (modest_cons o r g j)) i ds) (drop 1 cs))
