-- A turn of the loop over the outcomes: the step taken leads on from here, the sum below it is that of the definition, and what is known of
-- the steps before it stays known.
use Prim.Native.Nat.{ℕ, zero, suc, ◌+◌, ◌*◌, ◌-◌, ◌^◌, ◌≤◌, ◌<◌}
use native.Mathlib.Omega.{arith}
use native.Mathlib.Numerals.{add-one}
use native.Mathlib.Nat.{le_trans, mul-le-mul, mul-le-mul_left, pow-le-pow_left, pow-le-pow_right}
use mathlib.Core.Path.{◌≡◌, refl, sym, ap, ap₂, subst, ◌∙◌}
use mathlib.Core.List.{List, [], ◌∷◌}
use lib.IntN.{ℤ, pos}
use lib.ListN.{length, get_or, take, drop, drop_of_length-le}
use lib.Seq.{get_or-drop, drop-drop}
use Rattle.logic.specs.Lists.{tabulate, count_from}
use Rattle.logic.specs.Model.{Model, Step, outcomes}
use Rattle.logic.specs.Checked.{ok}
use Rattle.logic.specs.Plan.{Plan}
use Rattle.logic.specs.Choices.{plan_of}
use Rattle.logic.specs.Formula.{depth}
use Rattle.logic.specs.Quantity.{naturals}
use Rattle.logic.specs.Quantity as quantity
use Rattle.logic.specs.Bound.{total}
use Rattle.logic.specs.promises.Raised.{Modest}
use Rattle.logic.proofs.Tests.{tabulate_more}
use Rattle.blocks.specs.Block.{sum_below}
use Rattle.models.specs.Layout.{state_count}
use Rattle.models.proofs.ModelOfBytes.{tabulate_member, sum_tabulate}
use Rattle.prepared_model.specs.promises.Rows.{step_in, Offers, model_in, Prepared, RowOf}
use Rattle.prepared_model.proofs.ReadByPlace.{states_are, denominator_is, modest_rewards}
use Rattle.prepared_model.proofs.PlacesInRange.{read_range}
use Rattle.prepared_question.specs.promises.Nodes.{formula}
use Rattle.evaluation.specs.promises.Path.{steps_of, state_after}
use Rattle.evaluation.specs.promises.Reached.{root_of, Ready}
use Rattle.evaluation.specs.promises.Learnt.{learnt}
use Rattle.evaluation.specs.promises.Known.{Knows, Offered, Stepped}
use Rattle.evaluation.specs.promises.Worth.{worth_of, worth_on, worth_known, Readable}
use Rattle.evaluation.proofs.StepUndone.{back_none, back_same, knows_back, state_back, step_back}
use Rattle.evaluation.proofs.StepTaken.{state_reached, begun, state_stepped, whole_stepped, path_stepped}
use Rattle.evaluation.proofs.PathWorth.{modest_cons, worth_on_small, worth_readable, worth_here}
use Rattle.plan_choices.specs.promises.PlanSum.{Run, each, weigh}
use Rattle.plan_choices.specs.promises.Weighed.{Here, Ran}
use Rattle.plan_choices.proofs.SumIsWeight.{plan_weighed}
use Rattle.plan_choices.proofs.SumFits.{each_more, each_small, weigh_small}

-- ---- the choices read

weigh_step : (M : Model) (f : List Step → ℕ) (choices : List ℕ) (k s at a next : ℕ) → (k ≡ 0 → ⊥) → a ≡ get_or choices at 0 → drop next choices ≡ drop 1 (drop at choices)
    → each (λ o. weigh M (k - 1) o.target (λ r. f (o ∷ r))) (outcomes M s a) (drop next choices) ≡ weigh M k s f (drop at choices)
unfolding weigh
weigh_step M f choices zero s at a next n e g = absurd (n refl)
weigh_step M f choices (suc k) s at a next n e g =
    let below : ℕ → Step → List ℕ → Run = λ j o. weigh M j o.target (λ r. f (o ∷ r)) in
    let j : suc k - 1 ≡ k = omega arith in
    let i : at ≡ at + 0 = omega arith in
    ap₂ (λ j cs. each (below j) (outcomes M s a) cs) j g
    ∙ ap (λ a. each (below k) (outcomes M s a) (drop 1 (drop at choices))) (e ∙ ap (λ i. get_or choices i 0) i ∙ sym (get_or-drop at choices 0 0))

pub after_choice : (choices : List ℕ) (at : ℕ) → drop (at + 1) choices ≡ drop 1 (drop at choices)
after_choice choices at = sym (drop-drop 1 at choices)

-- Beyond the end there are no more choices.
pub after_end : (choices : List ℕ) (at : ℕ) → length choices ≤ at → drop at choices ≡ drop 1 (drop at choices)
after_end choices at h = let e : drop at choices ≡ [] = drop_of_length-le choices {i = at} h in e ∙ sym (ap (drop 1) e)

-- The sum below an outcome after the trail t, of k steps; and the sum below the first n outcomes of the choice at place i.
module _ (m q : List ℕ) (start a d : ℕ) (cone t : List ℕ) (k : ℕ) where
  abbrev pub below : Step → List ℕ → Run
  below o = weigh (model_in m) k o.target (λ r. worth_on m q start a d cone t (o ∷ r))

  abbrev pub runs : (s i n : ℕ) → List ℕ → Run
  runs s i n cs = each below (tabulate n (step_in m s i)) cs

-- The denominator to at most n steps.
denominator_power : {m : List ℕ} → Prepared m → (k n : ℕ) → k ≤ n → (model_in m).denominator ^ k ≤ 100 ^ n
denominator_power {m} w k n h =
    le_trans (pow-le-pow_left (subst (λ x. x ≤ 100) (sym (denominator_is m)) w.parts) k) (pow-le-pow_right {n = 100} (omega arith) {i = k} {j = n} h)

weights_few : (n : ℕ) (f : ℕ → ℕ) → ((j : ℕ) → j < n → f j ≤ 100) → sum_below n f ≤ n * 100
unfolding sum_below
weights_few zero f h = omega arith
weights_few (suc n) f h = omega (arith, weights_few n f (λ j l. h j (omega arith)), h n (omega arith))

-- ---- the choice at a spot

module _ {m q : List ℕ} {start : ℕ} (a d : ℕ) {truth cone : List ℕ} (ready : Ready m q start truth cone) {trail : List ℕ} {gains : List ℤ} {v : List ℕ} {h s k : ℕ}
    (here : Here m q start d cone trail gains v h s k) where
  pub state_here : s < state_count m
  state_here = state_reached ready here.knows here.state

  module _ (looks : 0 < length cone → d ≡ depth (formula q (root_of cone))) (from : a ≤ d) (z : k ≡ 0) where
    passed : d ≤ length (take h trail)
    passed = omega (arith, here.deep, here.whole)

    pub leaf_readable : Readable cone gains a d
    leaf_readable = worth_readable a d from ready here.knows passed (omega (arith, here.whole, here.steps))

    -- At the end of a path its worth is known.
    pub weigh_done : (choices : List ℕ) (at x : ℕ) → at ≤ length choices → x ≡ worth_known cone gains v a d
        → Ran (weigh (model_in m) k s (worth_on m q start a d cone (take h trail)) (drop at choices)) m q start cone h trail trail gains v choices x at
    unfolding weigh
    weigh_done choices at x l e = rw z (record { sum = e ∙ worth_here a d from cone ready looks here.knows passed []; left = refl; inside = l; back = back_none here.knows })

  -- No outcome is passed yet.
  pub runs_none : (choices : List ℕ) (at i : ℕ) → at ≤ length choices → Ran (runs m q start a d cone (take h trail) (k - 1) s i 0 (drop at choices)) m q start cone h trail trail gains v choices 0 at
  unfolding each tabulate count_from
  runs_none choices at i l = record { sum = refl; left = refl; inside = l; back = back_none here.knows }

  -- A choice is read, and the sum is that below its outcomes.
  pub weigh_choice : {trail' : List ℕ} {gains' : List ℤ} {v' : List ℕ} (choices : List ℕ) (at b next : ℕ) {i c o x y : ℕ} → (k ≡ 0 → ⊥) → b ≡ get_or choices at 0
      → drop next choices ≡ drop 1 (drop at choices) → RowOf m s b i c → o ≡ c
      → Ran (runs m q start a d cone (take h trail) (k - 1) s i o (drop next choices)) m q start cone h trail trail' gains' v' choices x y
      → Ran (weigh (model_in m) k s (worth_on m q start a d cone (take h trail)) (drop at choices)) m q start cone h trail trail' gains' v' choices x y
  weigh_choice {trail'} {gains'} {v'} choices at b next {i} {x = x} {y} n e f w all R =
      subst (λ z. Ran z m q start cone h trail trail' gains' v' choices x y)
      (ap (λ o. runs m q start a d cone (take h trail) (k - 1) s i o (drop next choices)) all
      ∙ ap (λ os. each (below m q start a d cone (take h trail) (k - 1)) os (drop next choices)) (sym w.row)
      ∙ weigh_step (model_in m) (worth_on m q start a d cone (take h trail)) choices k s at b next n e f) R

-- ---- a turn: the outcome o of the choice at place i, after the sum below the outcomes before it

pub record BeforeOutcome (m q : List ℕ) (start a d : ℕ) (truth cone trail₀ : List ℕ) (gains₀ : List ℤ) (v₀ : List ℕ) (h s k : ℕ) (choices : List ℕ) (at i c o : ℕ)
    (trail : List ℕ) (gains : List ℤ) (v : List ℕ) (sum next : ℕ) : Type 0 where
  pub ready : Ready m q start truth cone
  pub here : Here m q start d cone trail₀ gains₀ v₀ h s k
  pub left : k ≡ 0 → ⊥
  pub offers : (o : ℕ) → o < c → Offers m s i o
  pub more : o < c
  pub ran : Ran (runs m q start a d cone (take h trail₀) (k - 1) s i o (drop at choices)) m q start cone h trail₀ trail gains v choices sum next

module _ {m q : List ℕ} {start a d : ℕ} {truth cone trail₀ : List ℕ} {gains₀ : List ℤ} {v₀ : List ℕ} {h s k : ℕ} {choices : List ℕ} {at i c o : ℕ}
    {trail : List ℕ} {gains : List ℤ} {v : List ℕ} {sum next : ℕ} (T : BeforeOutcome m q start a d truth cone trail₀ gains₀ v₀ h s k choices at i c o trail gains v sum next) where
  abbrev under : Step → List ℕ → Run
  under = below m q start a d cone (take h trail₀) (k - 1)

  abbrev upto : ℕ → Run
  upto n = runs m q start a d cone (take h trail₀) (k - 1) s i n (drop at choices)

  inside_here : s < state_count m
  inside_here = state_here a d T.ready T.here

  pub within : (s < 32) × (i < 8) × (o < 4)
  within = read_range T.ready.prepared s inside_here i o (T.offers o T.more)

  -- The weights of a choice's outcomes are small, and so are the sums below them.
  runs_small : (n : ℕ) → n ≤ c → n ≤ 4 → (upto n).0 ≤ 400 * (12000 * 100 ^ 5)
  runs_small n l f =
      let P = T.ready.prepared in
      let D : ℕ = (model_in m).denominator in
      let b : 12000 * D ^ (k - 1) ≤ 12000 * 100 ^ 5 = mul-le-mul_left 12000 (denominator_power P (k - 1) 5 (omega (arith, T.here.steps))) in
      let u = each_small under (12000 * D ^ (k - 1)) (tabulate n (step_in m s i))
      (λ p j cs.
      let x = tabulate_member (step_in m s i) n j in
      let o : Offers m s i x.0 = T.offers x.0 (omega (arith, x.1)) in
      weigh_small (model_in m) P.accepted (modest_rewards P) 12000 (k - 1) p.target (λ r. worth_on m q start a d cone (take h trail₀) (p ∷ r))
      (λ r g. worth_on_small a d T.ready T.here.knows.followed (omega (arith, T.here.steps, T.here.deep)) (p ∷ r)
      (modest_cons p r (subst (λ (y : Step). Modest y.reward) (sym x.2) (P.raisable s i x.0 inside_here o)) g))
      (rw (states_are m, x.2) (P.inside s i x.0 inside_here o)) cs)
      (drop at choices) in
      let w = weights_few n (λ o. (step_in m s i o).weight) (λ o x. P.light s i o inside_here (T.offers o (omega arith))) in
      let v : quantity.sum naturals (λ o. o.weight) (tabulate n (step_in m s i)) ≤ 400 = rw (sum_tabulate (λ o. o.weight) (step_in m s i) n) (omega (arith, w)) in
      le_trans u (mul-le-mul v b)

  pub offered : Offered m start trail h s i o
  offered = record { steps = omega (arith, T.here.steps, T.left); state = state_back T.ran.back ∙ T.here.state; offers = T.offers o T.more }

  pub known_here : Knows m q start cone (take h trail) gains v
  known_here = knows_back T.ran.back

  module _ {trail' : List ℕ} {gains' : List ℤ} {v' : List ℕ} {t : ℕ} (St : Stepped m q start cone h s i o trail trail' gains' v' t) where
    pub here_next : Here m q start d cone trail' gains' v' (h + 1) t (k - 1)
    here_next =
        record {
          steps = omega (arith, T.here.steps, T.left);
          deep = omega (arith, T.here.deep, T.left);
          whole = whole_stepped T.ready offered known_here St;
          state = state_stepped T.ready offered known_here St;
          knows = St.knows;
        }

    module _ {trail'' : List ℕ} {gains'' : List ℤ} {v'' : List ℕ} {x next' : ℕ}
        (C : Ran (weigh (model_in m) (k - 1) t (worth_on m q start a d cone (take (h + 1) trail')) (drop next choices)) m q start cone (h + 1) trail' trail'' gains'' v'' choices x next') where
      -- The values of the steps to come are those of the step taken and the steps after it.
      part : weigh (model_in m) (k - 1) t (worth_on m q start a d cone (take (h + 1) trail')) (drop next choices) ≡ under (step_in m s i o) (upto o).1
      part =
          ap₂ (λ t f. weigh (model_in m) (k - 1) t f (drop next choices)) St.state
          (path_stepped T.ready offered known_here St (worth_of m q start a d cone) ∙ ap (λ l r. worth_on m q start a d cone l (step_in m s i o ∷ r)) T.ran.back.kept)
          ∙ ap (under (step_in m s i o)) T.ran.left

      pub runs_more : {sum' : ℕ} → sum' ≡ sum + (step_in m s i o).weight * x → Ran (upto (o + 1)) m q start cone h trail₀ trail'' gains'' v'' choices sum' next'
      runs_more {sum'} e =
          let p : Step = step_in m s i o in
          let y : Run = under p (upto o).1 in
          let all : upto (o + 1) ≡ ((upto o).0 + p.weight * y.0, y.1) =
          ap (λ n. each under (tabulate n (step_in m s i)) (drop at choices)) (add-one o)
          ∙ ap (λ os. each under os (drop at choices)) (tabulate_more (step_in m s i) o)
          ∙ each_more under (tabulate o (step_in m s i)) p (drop at choices) in
          record {
            sum = e ∙ ap₂ (λ z x. z + p.weight * x) T.ran.sum (C.sum ∙ ap (λ (z : Run). z.0) part) ∙ sym (ap (λ (z : Run). z.0) all);
            left = C.left ∙ ap (λ (z : Run). z.1) part ∙ sym (ap (λ (z : Run). z.1) all);
            inside = C.inside;
            back = back_same T.ran.back.kept (step_back St C.back);
          }

      pub runs_fit : sum + (step_in m s i o).weight * x < 2 ^ 64
      runs_fit = omega (arith, (runs_more refl).sum, runs_small (o + 1) (omega (arith, T.more)) (omega (arith, within.2)))

-- ---- the whole

-- At the start, before any step.
pub here_begun : {m q : List ℕ} {start d : ℕ} {truth cone : List ℕ} → Ready m q start truth cone → (trail : List ℕ) (gains : List ℤ) (v : List ℕ)
    → length gains ≡ 7 → length v ≡ 280 → get_or gains 0 (pos 0) ≡ pos 0 → {v' : List ℕ} → v' ≡ learnt q truth trail gains 0 start cone v
    → {n : ℕ} → d ≤ n → n ≤ 6 → Here m q start d cone trail gains v' 0 start n
unfolding state_after
here_begun ready trail gains v sums room g {v'} e h l =
    record { steps = omega arith; deep = omega arith; whole = refl; state = refl; knows = begun ready trail gains v v' g sums room e }

module _ {m q : List ℕ} {start : ℕ} (a d : ℕ) {truth cone : List ℕ} (ready : Ready m q start truth cone) (n : ℕ) (trail : List ℕ) {trail' : List ℕ}
    {gains' : List ℤ} {v' choices : List ℕ} {x next : ℕ}
    (R : Ran (weigh (model_in m) n start (worth_on m q start a d cone (take 0 trail)) (drop 0 choices)) m q start cone 0 trail trail' gains' v' choices x next) where
  pub all_weighed : (π : Plan n) → plan_of (model_in m) n start choices ≡ ok π → x ≡ total naturals (model_in m) n start π (worth_of m q start a d cone)
  unfolding steps_of
  all_weighed π e = R.sum ∙ plan_weighed (model_in m) n start (worth_of m q start a d cone) choices π e

  -- Whatever the choices are.
  pub all_small : d ≤ n → n ≤ 6 → x ≤ 12000 * 100 ^ 6
  all_small h l =
      let P = ready.prepared in
      rw R.sum
      (le_trans
      (weigh_small (model_in m) P.accepted (modest_rewards P) 12000 n start (worth_on m q start a d cone (take 0 trail))
      (worth_on_small a d ready R.back.knows.followed (omega arith)) (rw (states_are m) ready.state) (drop 0 choices))
      (mul-le-mul_left 12000 (denominator_power P n 6 l)))
