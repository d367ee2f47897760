-- A row of the table from the row below it: what a choice is worth, the first of the best choices tried so far, and the cells filled so far.
use Prim.Native.Nat.{ℕ, zero, suc, ◌+◌, ◌*◌, ◌-◌, ◌%◌, ◌^◌, ◌≤◌, ◌<◌}
use native.Mathlib.Omega.{arith}
use native.Mathlib.Nat.{mul-le-mul, mul-le-mul_left, mul_assoc, le_refl, add-mul}
use native.Mathlib.Numerals.{add-one}
use native.Mathlib.Decide.{ℕ_discrete}
use mathlib.Core.Path.{◌≡◌, refl, sym, ap, ap₂, subst, ◌∙◌}
use mathlib.Core.Bool.{Bool, true, false, not, cond}
use mathlib.Core.List.{List, Memᴰ}
use lib.ListN.{get_or, set, length, replicate}
use lib.Seq.{get_or-set_same, get_or-set_other}
use Rattle.logic.specs.Lists.{tabulate, count_from}
use Rattle.logic.specs.Model.{Model, enabled, outcomes}
use Rattle.logic.specs.Quantity.{naturals, sum}
use Rattle.logic.specs.promises.Orders.{weights, order}
use Rattle.logic.specs.promises.Raised.{raise, raised, pay, gain_worth, gain_choice}
use Rattle.logic.specs.promises.Recursion.{first_best, best_choice, greatest}
use Rattle.logic.proofs.Tests.{tabulate_more}
use Rattle.logic.proofs.FirstBest.{ordered, better, first_best_more}
use Rattle.logic.proofs.FirstChoice.{choice_same}
use Rattle.logic.proofs.GainsByTable.{sum_same, greatest_gains, greatest_nothing, gains_small}
use Rattle.blocks.specs.Bytes.{Bytes}
use Rattle.blocks.specs.Block.{sum_below}
use Rattle.models.specs.Layout.{state_count, denominator_of}
use Rattle.models.proofs.ModelOfBytes.{sum_tabulate}
use Rattle.bounds.proofs.Powers.{power_le}
use Rattle.prepared_model.specs.promises.Rows.{choices_in, choice_in, outcomes_in, step_in, Offers, model_in, Prepared}
use Rattle.prepared_model.proofs.ReadByPlace.{states_are, denominator_is, weights_sum, choice_enabled, modest_rewards}
use Rattle.best_gain.specs.declared.Window.{Window}
use Rattle.best_gain.specs.promises.Tabled.{worth_by, Low, Picks, WindowRight, before_left, last_left, best_left, Filled}

-- A table of zeros has 0 everywhere, and past its end.
pub zeros : (n i : ℕ) → get_or {A = ℕ} (replicate n 0) i 0 ≡ 0
zeros zero i = refl
zeros (suc n) zero = refl
zeros (suc n) (suc i) = zeros n i

-- ---- sums over the first outcomes

-- A sum of weighed numbers of at most b is at most the sum of the weights, times b.
sum_small : (w x : ℕ → ℕ) (b n : ℕ) → ((o : ℕ) → o < n → x o ≤ b) → sum_below n (λ o. w o * x o) ≤ sum_below n w * b
unfolding sum_below
sum_small w x b zero h = omega arith
sum_small w x b (suc n) h =
    let i = sum_small w x b n (λ o l. h o (omega arith)) in
    let j = mul-le-mul_left (w n) (h n (omega arith)) in
    let k = add-mul (sum_below n w) (w n) b in
    omega arith

sum_below_more : (w : ℕ → ℕ) (n k : ℕ) → n ≤ k → sum_below n w ≤ sum_below k w
unfolding sum_below
sum_below_more w n zero h = let e : n ≡ 0 = omega arith in rw e (omega arith)
sum_below_more w n (suc k) h = go (ℕ_discrete n (suc k)) (λ l. sum_below_more w n k l)
  where
    go : Dec (n ≡ suc k) → (n ≤ k → sum_below n w ≤ sum_below k w) → sum_below n w ≤ sum_below (suc k) w
    go (yes e) f = rw e (le_refl _)
    go (no g) f = let i = f (omega arith) in omega arith

pub next_sum : (f : ℕ → ℕ) (o : ℕ) {s x : ℕ} → s ≡ sum_below o f → x ≡ f o → s + x ≡ sum_below (o + 1) f
unfolding sum_below
next_sum f o e g = ap₂ ◌+◌ e g ∙ ap (λ n. sum_below n f) (sym (add-one o))

module _ {m : Bytes} (w : Prepared m) {best : List ℕ} {at unit : ℕ} (low : Low m best at unit) {s : ℕ} (h : s < state_count m) where
  -- What the outcome o of the choice at place i adds, before it is weighed.
  abbrev pub earned : (i o : ℕ) → ℕ
  earned i o = unit * raise (step_in m s i o).reward + get_or best (at + (step_in m s i o).target) 0

  pub earned_small : (i o : ℕ) → Offers m s i o → earned i o ≤ 12000 * 100 ^ 5
  earned_small i o u =
      let a = mul-le-mul low.earns (w.raisable s i o h u).small in
      let b = low.row (step_in m s i o).target (w.inside s i o h u) in
      omega arith

  abbrev pub weighed : (i o : ℕ) → ℕ
  weighed i o = (step_in m s i o).weight * earned i o

  module _ (i : ℕ) (g : i < choices_in m s) where
    pub sum_fits : (o : ℕ) → o ≤ outcomes_in m s i → sum_below o (weighed i) ≤ 12000 * 100 ^ 6
    sum_fits o l =
        let a = sum_small (λ o. (step_in m s i o).weight) (earned i) (12000 * 100 ^ 5) o (λ k j. earned_small i k (g, omega arith)) in
        let b = sum_below_more (λ o. (step_in m s i o).weight) o (outcomes_in m s i) l in
        let c : sum_below o (λ o. (step_in m s i o).weight) ≤ 100 = omega (arith, b, weights_sum w s h i g, w.parts) in
        let d = mul-le-mul {m₂ = 12000 * 100 ^ 5} c (le_refl (12000 * 100 ^ 5)) in
        omega arith

    pub worth_all : sum_below (outcomes_in m s i) (weighed i) ≡ worth_by m best at unit s (choice_in m s i)
    unfolding worth_by
    worth_all =
        sym (sum_tabulate (λ o. o.weight * (unit * raise o.reward + get_or best (at + o.target) 0)) (step_in m s i) (outcomes_in m s i))
        ∙ ap (sum naturals (λ o. o.weight * (unit * raise o.reward + get_or best (at + o.target) 0))) (sym (w.rows s i h g))

-- ---- the choices tried so far

module _ (least : Bool) (m : Bytes) (best : List ℕ) (at unit s : ℕ) where
  abbrev v : ℕ → ℕ
  v = worth_by m best at unit s

  pub picks_first : {x : ℕ} → x ≡ v (choice_in m s 0) → Picks least m best at unit s 1 x 0
  unfolding tabulate count_from best_choice first_best
  picks_first e = record { inside = omega arith; worth = e; first = refl }

  -- The best of one choice more.
  next_best : (i : ℕ) → 0 < i
      → best_choice (weights (order least)) v (tabulate (i + 1) (choice_in m s))
      ≡ better (weights (order least)) (ordered least) v (best_choice (weights (order least)) v (tabulate i (choice_in m s))) (choice_in m s i)
  unfolding best_choice tabulate count_from
  next_best zero l = absurd (omega arith)
  next_best (suc i) l =
      ap (λ n. best_choice (weights (order least)) v (tabulate n (choice_in m s))) (add-one (suc i))
      ∙ ap (best_choice (weights (order least)) v) (tabulate_more (choice_in m s) (suc i))
      ∙ first_best_more (weights (order least)) (ordered least) v (choice_in m s 0) _ (choice_in m s (suc i))

  module _ {i value place x : ℕ} (P : Picks least m best at unit s i value place) (e : x ≡ v (choice_in m s i)) where
    better_by : (t : Bool) → not (order least x value) ≡ t
        → best_choice (weights (order least)) v (tabulate (i + 1) (choice_in m s)) ≡ cond t (choice_in m s i) (choice_in m s place)
    unfolding better
    better_by t h =
        next_best i (omega (arith, P.inside))
        ∙ ap (λ b. cond (order least (v (choice_in m s i)) (v b)) b (choice_in m s i)) (sym P.first)
        ∙ ap₂ (λ a b. cond (order least a b) (choice_in m s place) (choice_in m s i)) (sym e) (sym P.worth)
        ∙ turned (order least x value) t h
      where
        turned : (u t : Bool) → not u ≡ t → cond u (choice_in m s place) (choice_in m s i) ≡ cond t (choice_in m s i) (choice_in m s place)
        turned true t h = ap (λ t. cond t (choice_in m s i) (choice_in m s place)) h
        turned false t h = ap (λ t. cond t (choice_in m s i) (choice_in m s place)) h

    pub picks_won : not (order least x value) ≡ true → Picks least m best at unit s (i + 1) x i
    picks_won h = record { inside = omega arith; worth = e; first = sym (better_by true h) }

    pub picks_lost : not (order least x value) ≡ false → Picks least m best at unit s (i + 1) value place
    picks_lost h = record { inside = omega (arith, P.inside); worth = P.worth; first = sym (better_by false h) }

-- ---- a cell from the row below it

module _ (least : Bool) {m : Bytes} (w : Prepared m) (win : Window) (right : WindowRight win) where
  abbrev M : Model
  M = model_in m

  inside : {s : ℕ} → s < state_count m → s < length M.states
  inside h = rw (states_are m) h

  -- The totals of at most five steps are low.
  pub row_low : (best places : List ℕ) (j unit end : ℕ) → j < win.steps → 32 * suc j ≤ end → Filled least m win best places end → unit ≤ 100 ^ 5 → Low m best (32 * j) unit
  row_low best places j unit end l g f u =
      record {
        inside = omega (arith, right.few);
        earns = u;
        row = λ t h.
            let e = f.totals j t h (omega (arith, w.states)) in
            let s = gains_small M w.accepted least (modest_rewards w) j (before_left win j) (last_left win j) t (inside h) in
            let p : M.denominator ^ j ≤ 100 ^ 5 = power_le M.denominator j 5 (omega (arith, denominator_is m, w.parts)) (omega (arith, right.few)) in
            let a : 2000 * j ≤ 10000 = omega (arith, right.few) in
            let b = mul-le-mul a p in
            omega (arith, e, s, b);
      }

  module _ {best places : List ℕ} {j end : ℕ} (l : j < win.steps) (g : 32 * suc j ≤ end) (f : Filled least m win best places end) where
    abbrev A : ℕ
    A = before_left win (suc j)

    abbrev U : ℕ
    U = last_left win (suc j)

    abbrev unit : ℕ
    unit = denominator_of m ^ j * pay A U

    below_is : (x : ℕ) → x - (win.steps - j) ≡ x - (win.steps - suc j) - 1
    below_is x = omega (arith, l)

    worth_is : (s : ℕ) → s < state_count m → (c : ℕ) → Memᴰ c (enabled M s) → worth_by m best (32 * j) unit s c ≡ gain_worth least M j A U s c
    unfolding worth_by gain_worth
    worth_is s h c i =
        sum_same (λ o. o.weight * (unit * raise o.reward + get_or best (32 * j + o.target) 0))
        (λ o. o.weight * (M.denominator ^ j * (pay A U * raise o.reward) + greatest (weights (order least)) M j o.target (raised (A - 1) (U - 1)))) (outcomes M s c)
        (λ o k.
        let t : o.target < state_count m = subst (λ n. o.target < n) (states_are m) (w.accepted.inside (record { state = inside h; choice = i }) o k) in
        ap (λ z. o.weight * z)
        (ap₂ ◌+◌
        (mul_assoc (denominator_of m ^ j) (pay A U) (raise o.reward) ∙ ap (λ d. d ^ j * (pay A U * raise o.reward)) (sym (denominator_is m)))
        (f.totals j o.target t (omega (arith, w.states)) ∙ ap₂ (λ a u. greatest (weights (order least)) M j o.target (raised a u)) (below_is win.before) (below_is win.last))))

    -- The choice that is picked, and its worth.
    module _ {s value place : ℕ} (h : s < state_count m) (P : Picks least m best (32 * j) unit s (choices_in m s) value place) where
      picked_choice : choice_in m s place ≡ gain_choice least M j A U s
      unfolding gain_choice
      picked_choice =
          P.first
          ∙ ap (best_choice (weights (order least)) (worth_by m best (32 * j) unit s)) (sym (w.choices s h))
          ∙ choice_same (order least) (worth_by m best (32 * j) unit s) (gain_worth least M j A U s) (enabled M s) (w.accepted.some_choice s (inside h))
          (λ a b i k. ap₂ (order least) (worth_is s h a i) (worth_is s h b k))

      picked_total : value ≡ best_left least M win (suc j) s
      picked_total =
          P.worth
          ∙ worth_is s h (choice_in m s place) (choice_enabled w s h place P.inside)
          ∙ ap (gain_worth least M j A U s) picked_choice
          ∙ sym (greatest_gains M w.accepted least j A U s (inside h))

      -- The table with the cell filled.
      pub filled_more : end ≡ 32 * suc j + s → end < length best → end < length places → Filled least m win (set best end value) (set places end place) (end + 1)
      filled_more e lb lp =
          record {
            totals = λ k t i b. total k t i b (ℕ_discrete (32 * k + t) end);
            choices = λ k t i b. choice k t i b (ℕ_discrete (32 * suc k + t) end);
          }
        where
          total : (k t : ℕ) → t < state_count m → 32 * k + t < end + 1 → Dec (32 * k + t ≡ end) → get_or (set best end value) (32 * k + t) 0 ≡ best_left least M win k t
          total k t i b (yes q) =
              let a : k ≡ suc j = omega (arith, w.states) in
              let c : t ≡ s = omega (arith, w.states) in
              ap (λ x. get_or (set best end value) x 0) q ∙ get_or-set_same best end value 0 lb ∙ picked_total ∙ sym (ap₂ (best_left least M win) a c)
          total k t i b (no q) = get_or-set_other best end (32 * k + t) value 0 q ∙ f.totals k t i (omega arith)

          choice : (k t : ℕ) → t < state_count m → 32 * suc k + t < end + 1 → Dec (32 * suc k + t ≡ end)
              → (get_or (set places end place) (32 * suc k + t) 0 < choices_in m t)
              × (choice_in m t (get_or (set places end place) (32 * suc k + t) 0) ≡ gain_choice least M k (before_left win (suc k)) (last_left win (suc k)) t)
          choice k t i b (yes q) =
              let a : k ≡ j = omega (arith, w.states) in
              let c : t ≡ s = omega (arith, w.states) in
              let z : get_or (set places end place) (32 * suc k + t) 0 ≡ place = ap (λ x. get_or (set places end place) x 0) q ∙ get_or-set_same places end place 0 lp in
              rw (z, a, c) (P.inside, picked_choice)
          choice k t i b (no q) =
              subst (λ x. (x < choices_in m t) × (choice_in m t x ≡ gain_choice least M k (before_left win (suc k)) (last_left win (suc k)) t))
              (sym (get_or-set_other places end (32 * suc k + t) place 0 q)) (f.choices k t i (omega arith))

  -- A cell of no state stays.
  pub filled_past : {best places : List ℕ} {k : ℕ} → state_count m ≤ k % 32 → Filled least m win best places k → Filled least m win best places (k + 1)
  filled_past {k = k} h f =
      record { totals = λ i t l b. f.totals i t l (omega (arith, w.states)); choices = λ i t l b. f.choices i t l (omega (arith, w.states)) }

  -- With no step left nothing is earned.
  pub filled_none : (places : List ℕ) → Filled least m win (replicate 224 0) places 32
  filled_none places =
      record {
        totals = λ k s h b.
            let e : k ≡ 0 = omega arith in
            zeros 224 (32 * k + s) ∙ sym (ap (λ k. best_left least M win k s) e ∙ greatest_nothing M w.accepted least (before_left win 0) (last_left win 0) s);
        choices = λ k s h b. absurd (omega arith);
      }
