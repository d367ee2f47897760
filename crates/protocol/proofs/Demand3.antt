-- Demand 3 for every session whose replies are those that document 01 describes by the history. A sheet with no ground but 11 is decided
-- by the comparison of two weights (`check_answer`); the verdict on the held question says yes exactly with the shown plan, which meets
-- the bound if any plan does (`Shown`); the bytes written of a plan are read back as its sheet, so what is written is accepted.
use Prim.Native.Nat.{ℕ, ◌+◌, ◌*◌, ◌^◌, ◌≤◌, ◌<◌}
use native.Mathlib.Omega.{arith}
use native.Mathlib.Nat.{le_antisymm, le_refl}
use mathlib.Core.Path.{◌≡◌, refl, sym, ap, ap₂, subst, ◌∙◌}
use mathlib.Core.Logic.{◌↔◌, ◌⊎◌, inl, inr, ⊎_elim}
use mathlib.Core.Bool.{Bool, true, false, false≢true, ◌&&◌}
use mathlib.Core.Option.{Option, none, some}
use mathlib.Core.List.{[], ◌++◌, Memᴰ}
use lib.Dec.{T, leb, le→leb, leb→le}
use lib.IntN.{ℤ, pos, negsuc}
use lib.ListN.{length, take, drop, length-append, length-drop}
use lib.Seq.{take_at, drop_at}
use lib.Signed.{mag, le_z}
use Rattle.logic.specs.Checked.{Checked, ok, refused, ◌>>=◌, ◌>>◌, guard}
use Rattle.logic.specs.promises.Refusal.{held, refusal}
use Rattle.logic.specs.Lists.{all}
use Rattle.logic.specs.Quantity.{integers}
use Rattle.logic.specs.Plan.{Plan, plans, choices, paths}
use Rattle.logic.specs.Bound.{weighed, gain_between}
use Rattle.logic.specs.Formula.{Formula, sat, W}
use Rattle.logic.specs.Model.{Model}
use Rattle.logic.specs.Verdict.{Goal, goal, Denial, ShownPlan, Verdict, no, yes_plan, shown, plan_record, announced, verdict_by, verdict}
use Rattle.logic.specs.Limits.{limit_grounds, limits}
use Rattle.logic.specs.Choices.{plan_of}
use Rattle.logic.proofs.Tests.{T→true, true→T, and_left, and_right}
use Rattle.logic.proofs.Checked.{not_ok, ok_same, bind_ok, guard_ok}
use Rattle.logic.proofs.Reading.{plan_of_sound, plan_of_complete}
use Rattle.logic.proofs.Shown.{goal_led, shown_there, shown_meets}
use Rattle.blocks.specs.Bytes.{Bytes, AllBytes, signed}
use Rattle.blocks.proofs.TwosComplement.{signed_natural}
use Rattle.blocks.proofs.NumberReadBack.{number_small}
use Rattle.questions.specs.Layout.{Question}
use Rattle.sheets.specs.Layout.{Sheet, weight_of, claimed_total, sheet_of}
use Rattle.sheets.specs.Grounds.{sheet_grounds, read_sheet}
use Rattle.protocol.specs.Calls.{Call, judge, query, write, check, Held, Report, Answer, judged, written, accepted, refuse, Reply, says, written_bytes, same, reported, yields}
use Rattle.protocol.specs.Demand3.{PlanQuestion, OnCondition, OnGain, total, meets_bound, lamp, Claims, Accepts, Differs, MeetingSheet, SaysYes, WritesShown, Demand3}
use Rattle.protocol.specs.promises.Chains.{sheet_shown, do_write, check_on, do_check, answered, by_chain}
use Rattle.protocol.proofs.AfterEachCall.{Sound}
use Rattle.protocol.proofs.Refusals.{first_passes, decided_none, decided_first, decided_ok, plan_only}
use Rattle.protocol.proofs.FirstGround.{yields_is}
use Rattle.protocol.proofs.Demand2.{judge_yields}
use Rattle.protocol.proofs.TotalsByRoot.{Root, root_of}

-- ---- equality of weights by its test

pub same_self : (a : ℤ) → same a a ≡ true
unfolding same
same_self (pos a) = ap₂ ◌&&◌ (T→true (leb a a) (le→leb a a (le_refl a))) (T→true (leb a a) (le→leb a a (le_refl a)))
same_self (negsuc a) = ap₂ ◌&&◌ (T→true (leb a a) (le→leb a a (le_refl a))) (T→true (leb a a) (le→leb a a (le_refl a)))

pub same_equal : (a b : ℤ) → same a b ≡ true → a ≡ b
unfolding same
same_equal a b e = both a b (true→T (and_left (le_z a b) (le_z b a) e)) (true→T (and_right (le_z a b) (le_z b a) e))
  where
    both : (a b : ℤ) → T (le_z a b) → T (le_z b a) → a ≡ b
    both (pos a) (pos b) p q = ap pos (le_antisymm (leb→le a b p) (leb→le b a q))
    both (pos a) (negsuc b) p q = absurd p
    both (negsuc a) (pos b) p q = absurd q
    both (negsuc a) (negsuc b) p q = ap negsuc (le_antisymm (leb→le a b q) (leb→le b a p))

-- ---- answers tell their parts

accepted_same : {r u : Report} → accepted r ≡ accepted u → r ≡ u
accepted_same e = cc

written_same : {j k : ℕ} → written j ≡ written k → j ≡ k
written_same e = cc

judged_same : {v w : Verdict} → judged v ≡ judged w → v ≡ w
judged_same e = cc

not_accepted : {k : ℕ} {r : Report} → refuse k ≡ accepted r → ⊥
not_accepted e = let z : ◌≡◌ {A = ℕ} 0 1 = cc in omega arith

not_written : {j k : ℕ} → refuse j ≡ written k → ⊥
not_written e = let z : ◌≡◌ {A = ℕ} 0 1 = cc in omega arith

pub held_some : {A : Type 0} (k : ℕ) (o : Option A) {a : A} → held k o ≡ ok a → o ≡ some a
held_some k none e = absurd (not_ok e)
held_some k (some b) e = ap some (ok_same e)

pub then_ok : {A B : Type 0} (t : Checked A) (c : Checked B) {b : B} → (t >> c) ≡ ok b → c ≡ ok b
then_ok (ok u) c e = e
then_ok (refused k) c e = absurd (not_ok e)

refuse_same : {j k : ℕ} → refuse j ≡ refuse k → j ≡ k
refuse_same e = cc

not_refused : {k : ℕ} {r : Report} → accepted r ≡ refuse k → ⊥
not_refused e = not_accepted (sym e)

-- A chain is refused by what comes after, if not by its first part.
refused_later : {A B : Type 0} (c : Checked A) (f : A → Checked B) (j : ℕ) → (c ≡ refused j → ⊥) → (c >>= f) ≡ refused j → (a : A) × (c ≡ ok a) × (f a ≡ refused j)
refused_later (ok a) f j n e = (a, refl, e)
refused_later (refused k) f j n e = absurd (n (ap (λ r. refused (refusal r)) e))

-- ---- the verdict on a goal, by its shown plan

module _ (m : Model) (s : ℕ) (g : Goal) where
  no≢yes : {d : Denial} {v : ShownPlan} → no d ≡ yes_plan v → ⊥
  no≢yes e = let z : ◌≡◌ {A = ℕ} 0 1 = cc in omega arith

  shown_said : (o : Option (ℕ × Plan g.steps)) (v : ShownPlan) → announced m s g o ≡ yes_plan v → (y : ℕ × Plan g.steps) × (o ≡ some y)
  shown_said none v e = absurd (no≢yes e)
  shown_said (some y) v e = (y, refl)

  -- The sheet of a verdict is that of the shown plan.
  sheet_said : (o : Option (ℕ × Plan g.steps)) (z : Sheet) → sheet_shown (announced m s g o) ≡ ok z
      → (y : ℕ × Plan g.steps) × (o ≡ some y) × (z ≡ record { weight = g.total y.1; choices = choices g.steps y.1 })
  unfolding sheet_shown
  sheet_said none z e = absurd (not_ok e)
  sheet_said (some y) z e = (y, refl, sym (ok_same e))

-- ---- what the calls find with a plan question held

module _ (h : Held) (m : Model) (q : Question) (e : h.model ≡ some m) (f : h.question ≡ some q) where
  module _ (g : Goal) (r : goal m q.start q.root ≡ ok g) where
    write_is : (n : ℕ) → do_write h n
        ≡ (held 23 h.verdict >>= (λ v. sheet_shown v >>= (λ z. guard 12 (leb (length (written_bytes q g z)) n) >> ok (written_bytes q g z))))
    unfolding do_write
    write_is n = rw (e, f, r)

    check_is : limits m q.nodes ≡ ok tt → (b : Bytes) → do_check h b
        ≡ (read_sheet g.steps q.start b >>= (λ x. plan_of m g.steps q.start x.choices >>= (λ π. guard 11 (same x.weight (g.total π)) >> ok (reported g π))))
    unfolding do_check check_on
    check_is l b = rw (e, f, r, l)

-- Reading a sheet is never refused with 11.
not_eleven : (n start : ℕ) (b : Bytes) → read_sheet n start b ≡ refused 11 → ⊥
unfolding read_sheet all
not_eleven n start b e = false≢true (first_passes (λ k. leb k 6) (sheet_grounds n start b) refl (decided_first (sheet_of b) (sheet_grounds n start b) e))

-- A sheet of a plan is read back from what is written of it, which is bytes.
pub record ReadsBack (q : Question) (g : Goal) (z : Sheet) : Type 0 where
  pub sheet : read_sheet g.steps q.start (written_bytes q g z) ≡ ok z
  pub bytes : AllBytes (written_bytes q g z)

module _ {h : Held} (reply : Call → Reply) (yielding : (c : Call) → reply c ≡ yields h c) (x : PlanQuestion h) where
  abbrev s : ℕ
  s = x.question.start

  abbrev n : ℕ
  n = x.asked.steps

  abbrev g : Goal
  g = x.asked

  limits_kept : limits x.model x.question.nodes ≡ ok tt
  unfolding limits
  limits_kept = decided_none tt (limit_grounds x.model x.question.nodes) x.within_limits

  -- ---- check

  abbrev decides : Sheet → Plan n → Checked Report
  decides z π = guard 11 (same z.weight (g.total π)) >> ok (reported g π)

  abbrev checked_by : Checked Report → Answer
  checked_by c = (answered [] c (λ r. says (accepted r))).answer

  check_answer : (sheet : Bytes) → (reply (query (check sheet))).answer
      ≡ checked_by (read_sheet n s sheet >>= (λ z. plan_of x.model n s z.choices >>= (λ π. decides z π)))
  unfolding by_chain
  check_answer sheet =
      ap (λ r. r.answer) (yielding (query (check sheet)) ∙ yields_is h (query (check sheet)))
      ∙ ap checked_by (check_is h x.model x.question x.held_model x.held_question g x.plan_root limits_kept sheet)

  claimed_answer : (sheet : Bytes) (w : ℤ) (π : Plan n) → Claims reply x sheet w π
      → (reply (query (check sheet))).answer ≡ checked_by (guard 11 (same w (g.total π)) >> ok (reported g π))
  claimed_answer sheet w π c =
      check_answer sheet
      ∙ ap (λ r. checked_by (r >>= (λ z. plan_of x.model n s z.choices >>= (λ ρ. decides z ρ)))) c.reads
      ∙ ap (λ r. checked_by (r >>= (λ ρ. decides (record { weight = w; choices = choices n π }) ρ))) (plan_of_complete x.model n s π c.is_plan)

  passed_test : (t : Bool) (u v : Report) → checked_by (guard 11 t >> ok u) ≡ accepted v → (t ≡ true) × (v ≡ u)
  passed_test true u v e = (refl, sym (accepted_same e))
  passed_test false u v e = absurd (not_accepted e)

  check_exact : (sheet : Bytes) (w : ℤ) (π : Plan n) → Claims reply x sheet w π → ((r : Report) × Accepts reply x sheet r) ↔ (w ≡ total reply x π)
  check_exact sheet w π c = (
    λ a. same_equal w (g.total π) (passed_test (same w (g.total π)) (reported g π) a.0 (sym (claimed_answer sheet w π c) ∙ a.1)).0,
    λ e. (reported g π, claimed_answer sheet w π c ∙ ap (λ t. checked_by (guard 11 t >> ok (reported g π))) (subst (λ z. same w z ≡ true) e (same_self w))),
  )

  either_test : (t : Bool) (u : Report) → ((r : Report) × (checked_by (guard 11 t >> ok u) ≡ accepted r)) ⊎ (checked_by (guard 11 t >> ok u) ≡ refuse 11)
  either_test true u = inl (u, refl)
  either_test false u = inr refl

  check_either : (sheet : Bytes) (w : ℤ) (π : Plan n) → Claims reply x sheet w π → ((r : Report) × Accepts reply x sheet r) ⊎ Differs reply x sheet
  check_either sheet w π c =
      let e = claimed_answer sheet w π c in
      ⊎_elim (λ a. inl (a.0, e ∙ a.1)) (λ d. inr (e ∙ d)) (either_test (same w (g.total π)) (reported g π))

  check_differs : (sheet : Bytes) (w : ℤ) (π : Plan n) → Claims reply x sheet w π → (w ≡ total reply x π → ⊥) → Differs reply x sheet
  check_differs sheet w π c n = ⊎_elim (λ a. absurd (n ((check_exact sheet w π c).0 a))) (λ d. d) (check_either sheet w π c)

  check_says : (sheet : Bytes) (w : ℤ) (π : Plan n) → Claims reply x sheet w π → (r : Report) → Accepts reply x sheet r → r.met ≡ meets_bound reply x π
  check_says sheet w π c r a = ap (λ z. z.met) (passed_test (same w (g.total π)) (reported g π) r (sym (claimed_answer sheet w π c) ∙ a)).1

  check_tells : (sheet : Bytes) (w : ℤ) (π : Plan n) → Claims reply x sheet w π → (r : Report) → Accepts reply x sheet r → r.lamp ≡ lamp reply x π
  check_tells sheet w π c r a = ap (λ z. z.lamp) (passed_test (same w (g.total π)) (reported g π) r (sym (claimed_answer sheet w π c) ∙ a)).1

  accepted_ok : (c : Checked Report) (r : Report) → checked_by c ≡ accepted r → c ≡ ok r
  accepted_ok (ok t) r e = ap ok (accepted_same e)
  accepted_ok (refused k) r e = absurd (not_accepted e)

  differs_refused : (c : Checked Report) → checked_by c ≡ refuse 11 → c ≡ refused 11
  differs_refused (ok t) e = absurd (not_refused e)
  differs_refused (refused k) e = ap refused (refuse_same e)

  claims_of : (sheet : Bytes) (z : Sheet) (π : Plan n) → read_sheet n s sheet ≡ ok z → plan_of x.model n s z.choices ≡ ok π
      → Claims reply x sheet z.weight π
  claims_of sheet z π e f =
      let p = plan_of_sound x.model n s z.choices π f in
      record { reads = e ∙ ap (λ cs. ok (record { weight = z.weight; choices = cs })) (sym p.1); is_plan = p.0 }

  accepted_claims : (sheet : Bytes) (r : Report) → Accepts reply x sheet r → (w : ℤ) × (π : Plan n) × Claims reply x sheet w π
  accepted_claims sheet r a =
      let u = bind_ok (read_sheet n s sheet) _ (accepted_ok _ r (sym (check_answer sheet) ∙ a)) in
      let v = bind_ok (plan_of x.model n s u.0.choices) _ u.2 in
      (u.0.weight, v.0, claims_of sheet u.0 v.0 u.1 v.1)

  differing_claims : (sheet : Bytes) → Differs reply x sheet → (w : ℤ) × (π : Plan n) × Claims reply x sheet w π
  differing_claims sheet d =
      let e = differs_refused _ (sym (check_answer sheet) ∙ d) in
      let u = refused_later (read_sheet n s sheet) _ 11 (not_eleven n s sheet) e in
      let q = plan_of x.model n s u.0.choices in
      let v = refused_later q _ 11 (λ z. let w = (plan_only x.model n s u.0.choices).number z in omega arith) u.2 in
      (u.0.weight, v.0, claims_of sheet u.0 v.0 u.1 v.1)

  claims_exact : (sheet : Bytes) → ((w : ℤ) × (π : Plan n) × Claims reply x sheet w π) ↔ (((r : Report) × Accepts reply x sheet r) ⊎ Differs reply x sheet)
  claims_exact sheet = (λ c. check_either sheet c.0 c.1 c.2, ⊎_elim (λ a. accepted_claims sheet a.0 a.1) (λ d. differing_claims sheet d))

  -- ---- judge

  abbrev said : Verdict
  said = announced x.model s g (shown x.model s g)

  verdict_is : verdict x.model s x.question.root ≡ said
  unfolding verdict
  verdict_is = ap (verdict_by x.model s (sat x.model x.question.root s [])) x.plan_root

  judge_answer : (reply judge).answer ≡ judged said
  judge_answer =
      ap (λ r. r.answer) (yielding judge)
      ∙ judge_yields h x.model x.question x.held_model x.held_question x.within_limits ∙ ap judged verdict_is

  -- ---- what the totals are

  root : Root x.model s x.question.root g
  root = root_of x.model s x.question.root g x.plan_root

  two_kinds : ((φ : Formula) × OnCondition reply x φ) ⊎ ((l : ℕ) × (u : ℕ) × OnGain reply x l u)
  two_kinds =
      ⊎_elim (λ w. inl (w.0, record { relation = w.1.0; p = w.1.1; q = w.1.2; root = w.1.3 }))
      (λ w. inr (w.0, w.1, record { relation = w.2.0; p = w.2.1; q = w.2.2; root = w.2.3 })) root.kinds

  total_is_W : (φ : Formula) → OnCondition reply x φ → (π : Plan n) → total reply x π ≡ pos (W x.model φ n s π)
  total_is_W φ w = root.weights φ (w.relation, w.p, w.q, w.root)

  total_is_gain : (l u : ℕ) → OnGain reply x l u → (π : Plan n)
      → total reply x π ≡ weighed integers (gain_between l u) (paths x.model n s π)
  total_is_gain l u w = root.gains l u (w.relation, w.p, w.q, w.root)

  -- A sheet claims what its eight bytes hold.
  claimed_is : (sheet : Bytes) (w : ℤ) (π : Plan n) → Claims reply x sheet w π → signed 63 (weight_of sheet 0) ≡ w
  unfolding read_sheet sheet_of claimed_total
  claimed_is sheet w π c = ap (λ z. z.weight) (decided_ok (sheet_of sheet) (sheet_grounds n s sheet) c.reads).1

  module _ (sound : Sound h) (back : (π : Plan n) → Memᴰ π (plans x.model n s) → ReadsBack x.question g (record { weight = g.total π; choices = choices n π }))
      (small : (π : Plan n) → Memᴰ π (plans x.model n s) → mag (g.total π) < 2 ^ 63) where
    check_unsigned : (φ : Formula) → OnCondition reply x φ → (sheet : Bytes) → AllBytes sheet → (w : ℤ) (π : Plan n) → Claims reply x sheet w π
        → ((r : Report) × Accepts reply x sheet r) ↔ (weight_of sheet 0 ≡ W x.model φ n s π)
    unfolding weight_of
    check_unsigned φ o sheet bytes w π c =
        let e = total_is_W φ o π in
        let same = signed_natural 63 (weight_of sheet 0) (W x.model φ n s π) (number_small sheet bytes (512 * 0 + 8)) (subst (λ z. mag z < 2 ^ 63) e (small π c.is_plan)) in (
          λ a. same.0 (claimed_is sheet w π c ∙ (check_exact sheet w π c).0 a ∙ e),
          λ i. (check_exact sheet w π c).1 (sym (claimed_is sheet w π c) ∙ same.1 i ∙ sym e),
        )

    sheet_for : Plan n → Bytes
    sheet_for π = written_bytes x.question g (record { weight = g.total π; choices = choices n π })

    -- The bytes written of a plan that meets the bound are an accepted sheet that meets it.
    meeting : (π : Plan n) → Memᴰ π (plans x.model n s) → g.met π ≡ true → MeetingSheet reply x (sheet_for π) π
    unfolding sheet_for
    meeting π i e =
        let c : Claims reply x (sheet_for π) (g.total π) π = record { reads = (back π i).sheet; is_plan = i } in
        let a = (check_exact (sheet_for π) (g.total π) π c).1 refl in
        record {
          bytes = (back π i).bytes;
          claims = c;
          report = a.0;
          accepts = a.1;
          reports_it = check_says (sheet_for π) (g.total π) π c a.0 a.1 ∙ e;
          meets_it = e;
        }

    led_shown : (π : Plan n) → Memᴰ π (plans x.model n s) → g.met π ≡ true → (y : ℕ × Plan n) × (shown x.model s g ≡ some y)
    led_shown π i e = shown_there x.model s g (goal_led x.model s x.question.root g x.plan_root) π i e

    yes_exact : SaysYes reply x ↔ ((sheet : Bytes) × (π : Plan n) × MeetingSheet reply x sheet π)
    yes_exact = (
      λ y.
          let u = shown_said x.model s g (shown x.model s g) y.shown (judged_same (sym judge_answer ∙ y.answers)) in
          let k = shown_meets x.model s g u.0 u.1 in
          (sheet_for u.0.1, u.0.1, meeting u.0.1 k.0 k.1),
      λ z.
          let u = led_shown z.1 z.2.claims.is_plan z.2.meets_it in
          record {
            shown = plan_record g u.0;
            steps = refl;
            answers = judge_answer ∙ ap (λ o. judged (announced x.model s g o)) u.1;
          },
    )

    -- ---- write

    filled_bytes : (size : ℕ) (b : Bytes) → do_write h size ≡ ok b
        → (y : ℕ × Plan n) × (shown x.model s g ≡ some y) × (b ≡ sheet_for y.1) × (length b ≤ size)
    unfolding sheet_for
    filled_bytes size b e =
        let u = bind_ok (held 23 h.verdict) _ (sym (write_is h x.model x.question x.held_model x.held_question g x.plan_root size) ∙ e) in
        let v = bind_ok (sheet_shown u.0) _ u.2 in
        let c : Bytes = written_bytes x.question g v.0 in
        let w = guard_ok 12 (leb (length c) size) _ v.2 in
        let k : u.0 ≡ said = sound.verdict_is x.model x.question u.0 x.held_model x.held_question (held_some 23 h.verdict u.1) ∙ verdict_is in
        let z = sheet_said x.model s g (shown x.model s g) v.0 (ap sheet_shown (sym k) ∙ v.1) in (
          z.0,
          z.1,
          sym (ok_same w.1) ∙ ap (λ k. written_bytes x.question g k) z.2,
          subst (λ l. length l ≤ size) (ok_same w.1) (leb→le (length c) size (true→T w.0)),
        )

    writes : (a : Bytes) (filled : ℕ) (c : Checked Bytes) → do_write h (length a) ≡ c → (r : Reply)
        → r ≡ answered a c (λ b. record { answer = written (length b); buffer = b ++ drop (length b) a })
        → r.answer ≡ written filled → WritesShown reply x a r.buffer filled
    writes a filled (ok b) e r i k =
        let y = filled_bytes (length a) b e in
        let l : length b ≡ filled = written_same (sym (ap (λ z. z.answer) i) ∙ k) in
        let u = shown_meets x.model s g y.0 y.1 in
        let t : take filled r.buffer ≡ b = ap (λ z. take filled z.buffer) i ∙ take_at b (drop (length b) a) filled l in
        record {
          place = y.0.0;
          shown_plan = y.0.1;
          is_shown = y.1;
          size = ap (λ z. length z.buffer) i ∙ length-append b (drop (length b) a) ∙ omega (arith, length-drop (length b) a, y.3);
          whole = ap length t ∙ l;
          sheet = subst (λ z. MeetingSheet reply x z y.0.1) (sym (t ∙ y.2)) (meeting y.0.1 u.0 u.1);
          beyond = ap (λ z. drop filled z.buffer) i ∙ drop_at b (drop (length b) a) filled l ∙ ap (λ n. drop n a) l;
        }
    writes a filled (refused j) e r i k = absurd (not_written (sym (ap (λ z. z.answer) i) ∙ k))

    write_exact : (a : Bytes) (filled : ℕ) → (reply (query (write a))).answer ≡ written filled → WritesShown reply x a (reply (query (write a))).buffer filled
    unfolding by_chain
    write_exact a filled k = writes a filled (do_write h (length a)) refl (reply (query (write a))) (yielding (query (write a)) ∙ yields_is h (query (write a))) k

    pub demand_3 : Demand3 reply x
    demand_3 =
        record {
          two_kinds = two_kinds;
          total_is_W = total_is_W;
          total_is_gain = total_is_gain;
          met_by_W = λ φ w. root.weight_met φ (w.relation, w.p, w.q, w.root);
          met_by_gain = λ l u w. root.gain_met l u (w.relation, w.p, w.q, w.root);
          lamp_by_W = λ φ w. root.weight_lamp φ (w.relation, w.p, w.q, w.root);
          lamp_by_gain = λ l u w. root.gain_lamp l u (w.relation, w.p, w.q, w.root);
          met_by_lamp = root.met_exact;
          check_exact = check_exact;
          check_unsigned = check_unsigned;
          check_differs = check_differs;
          claims_exact = claims_exact;
          check_says = check_says;
          check_tells = check_tells;
          yes_exact = yes_exact;
          write_exact = write_exact;
        }
