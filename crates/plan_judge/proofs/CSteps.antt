-- What the C call tells, by the grounds of the bytes and by what judging comes to: a refusal is told on at once, a verdict by its cases, and a shown
-- plan by its sheet.
use Prim.Native.Nat.{ℕ, ◌+◌, ◌*◌, ◌-◌, ◌≤◌, ◌<◌}
use native.Mathlib.Omega.{arith}
use mathlib.Core.Path.{◌≡◌, refl, sym, ap, ap₂, subst, ◌∙◌}
use mathlib.Core.Bool.{Bool, true, false}
use mathlib.Core.List.{List, [], ◌++◌}
use mathlib.Core.Option.{Option, none, some}
use lib.Dec.{leb}
use lib.IntN.{ℤ}
use lib.ListN.{length, take, drop, replicate}
use lib.Seq.{take-append_seam}
use borrow.Author.Tests.{le-leb, lt-leb}
use Rattle.std.specs.Prelude.{Ok, Err}
use Rattle.refusals.specs.declared.Refusal.{Refusal}
use Rattle.refusals.specs.Number.{number}
use Rattle.refusals.specs.promises.Named.{named}
use Rattle.logic.specs.Checked.{Checked, ok, refused, ◌>>=◌, ◌>>◌, guard}
use Rattle.logic.specs.promises.Refusal.{refusal}
use Rattle.logic.specs.Model.{Model}
use Rattle.logic.specs.Plan.{Plan}
use Rattle.logic.specs.Formula.{Formula, sat}
use Rattle.logic.specs.Limits.{limits}
use Rattle.logic.specs.Verdict.{Goal, goal, shown, plan_record, announced, verdict_by, verdict}
use Rattle.logic.specs.Verdict as logic
use Rattle.logic.proofs.Checked.{not_ok, ok_same}
use Rattle.logic.proofs.Tests.{length_tabulate}
use Rattle.blocks.specs.Bytes.{Bytes, byte}
use Rattle.models.specs.Layout.{model_of}
use Rattle.models.specs.Grounds.{read_model}
use Rattle.models.proofs.GroundsPassed.{passed_all, read_passed}
use Rattle.models.proofs.ModelOfBytes.{states_held}
use Rattle.questions.specs.Layout.{Question, start_of, question_of}
use Rattle.questions.specs.Grounds.{read_question}
use Rattle.questions.specs.promises.Formed.{sets_bound}
use Rattle.questions.proofs.AcceptedFacts.{accepted}
use Rattle.sheets.specs.Layout.{sheet_bytes, blocks_for}
use Rattle.sheets.proofs.ReadsBack.{sheet_length}
use Rattle.protocol.specs.Calls.{judge, Held, judged, says, question_for}
use Rattle.protocol.specs.promises.Chains.{do_judge, do_write, sheet_shown, answered, by_chain}
use Rattle.protocol.proofs.Lists.{with_question}
use Rattle.judging.specs.declared.PlanRecord.{PlanRecord}
use Rattle.judging.specs.declared.Verdict.{Verdict}
use Rattle.judging.specs.declared.Denial.{Denial}
use Rattle.judging.specs.declared.Verdict.TheVariants.{No, Yes, YesPlan}
use Rattle.judging.specs.promises.Announced.{verdict_code}
use Rattle.plan_judge.specs.declared.Ruling.{Ruling}
use Rattle.plan_judge.specs.View.{choices_in, verdict_in, verdict_on}
use Rattle.plan_judge.specs.promises.Values.{padded, choices_code, judge_on, ruling}
use Rattle.plan_judge.specs.promises.State.{PlanRoot, size_in}
use Rattle.plan_judge.specs.promises.CChain.{Told, Begins, told_sheet, told_of, told_on, c_chain, Tells}
use Rattle.plan_judge.proofs.DesksHoldHistory.{verdict_read}
use Rattle.plan_judge.proofs.WriteReturns.{first_choices}
use Rattle.plan_judge.proofs.NumbersListed.{named_back}
use Rattle.plan_judge.proofs.StateGrounds.{root_node, other_goal, asked_goal, goal_is}

-- The same is told of what is the same.
pub told_same : {c e : Checked Told} {found left : Bytes} {r : ℕ} → c ≡ e → Tells c found left r → Tells e found left r
told_same {found = found} {left = left} {r = r} i t = subst (λ z. Tells z found left r) i t

-- A refusal is told as its number, and the buffer stays.
pub refusal_told : {c : Checked Told} {k : ℕ} (found : Bytes) → c ≡ refused k → Tells c found found (100 + k)
refusal_told found e = told_same (sym e) (record { number = refl; buffer = refl })

-- ---- the grounds of the bytes

-- A number that is not 0 is a refusal's.
refused_by : {A B : Type 0} (c : Checked A) {k : ℕ} → k ≡ refusal c → (k ≡ 0 → ⊥) → (f : A → Checked B) → (c >>= f) ≡ refused k
refused_by (ok a) e h f = absurd (h e)
refused_by (refused j) e h f = ap refused (sym e)

refused_is : {A : Type 0} (c : Checked A) {k : ℕ} → k ≡ refusal c → (k ≡ 0 → ⊥) → c ≡ refused k
refused_is (ok a) e h = absurd (h e)
refused_is (refused j) e h = ap refused (sym e)

-- The question is read for the numbers in the model's head.
question_by_head : (model q : Bytes) → question_for (model_of model) q ≡ read_question (byte model 2) (byte model 3) (byte model 4) q
unfolding model_of
question_by_head model q = ap₂ (λ S A. read_question S A (byte model 4) q) (states_held model) (length_tabulate _ (byte model 3))

module _ (model question : Bytes) {k : ℕ} where
  pub chain_model : (size : ℕ) → k ≡ refusal (read_model model) → (k ≡ 0 → ⊥) → c_chain model question size ≡ refused k
  unfolding c_chain
  chain_model size e h = refused_by (read_model model) e h (λ m. question_for m question >>= told_on size m)

  module _ (e : k ≡ refusal (read_question (byte model 2) (byte model 3) (byte model 4) question)) (h : k ≡ 0 → ⊥) where
    put_refused : question_for (model_of model) question ≡ refused k
    put_refused = refused_is (question_for (model_of model) question) (e ∙ sym (ap refusal (question_by_head model question))) h

    pub chain_question : (size : ℕ) → refusal (read_model model) ≡ 0 → c_chain model question size ≡ refused k
    unfolding c_chain
    chain_question size p =
        ap (λ c. c >>= (λ m. question_for m question >>= told_on size m)) (read_passed model (passed_all model p))
        ∙ ap (λ c. c >>= told_on size (model_of model)) put_refused

-- Past the grounds of the bytes.
pub chain_passed : (model question : Bytes) (size : ℕ) → refusal (read_model model) ≡ 0
    → refusal (read_question (byte model 2) (byte model 3) (byte model 4) question) ≡ 0
    → told_on size (model_of model) (question_of question) ≡ c_chain model question size
unfolding c_chain
chain_passed model question size p e =
    sym
    (ap (λ c. c >>= (λ m. question_for m question >>= told_on size m)) (read_passed model (passed_all model p))
    ∙ ap (λ c. c >>= told_on size (model_of model)) (question_by_head model question ∙ (accepted _ _ _ question e).read))

-- The write of what is held, as it is told.
unfoldable pub told_write : Held → ℕ → Checked Told
told_write h size = do
  b ← do_write h size
  ok (record { answer = true; sheet = b })

-- ---- a shown plan

-- A verdict with a plan is that of a goal with the plan's steps.
verdict_goal : (m : Model) (s : ℕ) (φ : Formula) (p : logic.ShownPlan) → logic.yes_plan p ≡ verdict m s φ
    → (g : Goal) × (goal m s φ ≡ ok g) × (g.steps ≡ p.steps)
unfolding verdict
verdict_goal m s φ p e = by (goal m s φ) refl (sat m φ s []) e
  where
    by_shown : (g : Goal) (o : Option (ℕ × Plan g.steps)) → logic.yes_plan p ≡ announced m s g o → g.steps ≡ p.steps
    by_shown g none z = let y : ◌≡◌ {A = ℕ} 0 1 = cc in absurd (omega arith)
    by_shown g (some x) z = let y : p ≡ plan_record g x = cc in ap (λ r. r.steps) (sym y)

    by : (c : Checked Goal) → goal m s φ ≡ c → (t : Bool) → logic.yes_plan p ≡ verdict_by m s t c
        → (g : Goal) × (goal m s φ ≡ ok g) × (g.steps ≡ p.steps)
    by (ok g) i t z = (g, i, by_shown g (shown m s g) z)
    by (refused j) i true z = let y : ◌≡◌ {A = ℕ} 0 1 = cc in absurd (omega arith)
    by (refused j) i false z = let y : ◌≡◌ {A = ℕ} 0 1 = cc in absurd (omega arith)

-- A shown plan, held with its model (of whatever blocks) and its question.
abbrev pub held_shown : Model → Bytes → Question → logic.Verdict → Held
held_shown m blocks q v = record { model = some m; blocks = blocks; question = some q; verdict = some v }

-- It is written as it is told.
module _ (size : ℕ) (m : Model) (blocks : Bytes) (q : Question) (p : logic.ShownPlan) where
  abbrev sheet : ℕ → Bytes
  sheet steps = sheet_bytes steps q.start p.total p.choices

  abbrev fitted : ℕ → Checked Bytes
  fitted steps = guard 12 (leb (length (sheet steps)) size) >> ok (sheet steps)

  abbrev yes_with : Bytes → Checked Told
  yes_with b = ok (record { answer = true; sheet = b })

  told_plan : (g : Goal) → goal m q.start q.root ≡ ok g → g.steps ≡ p.steps
      → told_write (held_shown m blocks q (logic.yes_plan p)) size ≡ told_of q.start size (logic.yes_plan p)
  unfolding told_write do_write sheet_shown told_of
  told_plan g i j = ap (λ c. c >>= (λ g. fitted g.steps) >>= yes_with) i ∙ ap (λ s. fitted s >>= yes_with) j ∙ by (leb (length (sheet p.steps)) size)
    where
      by : (t : Bool) → (guard 12 t >> ok (sheet p.steps) >>= yes_with) ≡ (guard 12 t >> yes_with (sheet p.steps))
      by true = refl
      by false = refl

pub shown_written : (m : Model) (blocks : Bytes) (q : Question) (size : ℕ) (p : logic.ShownPlan) → logic.yes_plan p ≡ verdict m q.start q.root
    → told_write (held_shown m blocks q (logic.yes_plan p)) size ≡ told_of q.start size (logic.yes_plan p)
shown_written m blocks q size p e =
    let g = verdict_goal m q.start q.root p e in
    told_plan size m blocks q p g.0 g.1 g.2

-- ---- what judging comes to

module _ (m : Model) (q : Question) (r : Ruling) (i : r ≡ ruling (judge_on m q)) where
  abbrev judged_so : logic.Verdict
  judged_so = verdict m q.start q.root

  ground_is : (x : Refusal) → r.answer ≡ Err x → limits m q.nodes ≡ refused (number x)
  unfolding by_chain do_judge
  ground_is x a = by (limits m q.nodes) refl (ap (λ (x : Ruling). x.answer) (sym i) ∙ a)
    where
      by : (c : Checked (Unit {0})) → limits m q.nodes ≡ c → (ruling (c >> ok judged_so)).answer ≡ Err x → limits m q.nodes ≡ refused (number x)
      by (ok u) e z = let y : ◌≡◌ {A = ℕ} 0 1 = cc in absurd (omega arith)
      by (refused j) e z =
          let y : named j ≡ x = cc in
          let l = named_back (with_question [] m q) judge j (ap (λ c. (answered [] (c >> ok judged_so) (λ v. says (judged v))).answer) e) in
          e ∙ ap refused (sym l ∙ ap number y)

  pub told_ground : (size : ℕ) (x : Refusal) → r.answer ≡ Err x → told_on size m q ≡ refused (number x)
  unfolding told_on
  told_ground size x a = ap (λ c. c >> told_of q.start size judged_so) (ground_is x a)

  -- The verdict is said, with its choices beside it.
  module _ (v : Verdict) (a : r.answer ≡ Ok v) where
    said : (limits m q.nodes ≡ ok tt) × (v ≡ verdict_code judged_so) × (r.choices ≡ choices_code judged_so)
    said = by (limits m q.nodes) refl (ap (λ (x : Ruling). x.answer) (sym i) ∙ a) (ap (λ (x : Ruling). x.choices) i)
      where
        by : (c : Checked (Unit {0})) → limits m q.nodes ≡ c → (ruling (c >> ok judged_so)).answer ≡ Ok v → r.choices ≡ (ruling (c >> ok judged_so)).choices
            → (limits m q.nodes ≡ ok tt) × (v ≡ verdict_code judged_so) × (r.choices ≡ choices_code judged_so)
        by (ok u) j z y = (j, cc, y)
        by (refused k) j z y = let w : ◌≡◌ {A = ℕ} 0 1 = cc in absurd (omega arith)

    pub told_verdict : (size : ℕ) → told_of q.start size judged_so ≡ told_on size m q
    unfolding told_on
    told_verdict size = sym (ap (λ c. c >> told_of q.start size judged_so) said.0)

    pub no_told : (x : Denial) → v ≡ No x → (found : Bytes) → Tells (told_on (length found) m q) found found 0
    unfolding told_of verdict_code
    no_told x e found = told_same (told_verdict (length found)) (by judged_so (sym said.1 ∙ e))
      where
        by : (l : logic.Verdict) → verdict_code l ≡ No x → Tells (told_of q.start (length found) l) found found 0
        by (logic.no y) z = record { number = refl; buffer = refl }
        by logic.yes z = let y : ◌≡◌ {A = ℕ} 0 1 = cc in absurd (omega arith)
        by (logic.yes_plan y) z = let n : ◌≡◌ {A = ℕ} 0 1 = cc in absurd (omega arith)

    pub yes_told : v ≡ Yes → (found : Bytes) → Tells (told_on (length found) m q) found found 1
    unfolding told_of verdict_code
    yes_told e found = told_same (told_verdict (length found)) (by judged_so (sym said.1 ∙ e))
      where
        by : (l : logic.Verdict) → verdict_code l ≡ Yes → Tells (told_of q.start (length found) l) found found 1
        by (logic.no y) z = let n : ◌≡◌ {A = ℕ} 0 1 = cc in absurd (omega arith)
        by logic.yes z = record { number = refl; buffer = refl }
        by (logic.yes_plan y) z = let n : ◌≡◌ {A = ℕ} 0 1 = cc in absurd (omega arith)

    -- A plan is shown: its total is said, and its choices stand first.
    pub record Shown (p : PlanRecord) : Type 0 where
      pub plan : logic.ShownPlan
      pub is : logic.yes_plan plan ≡ judged_so
      pub total : p.total ≡ plan.total
      pub beside : r.choices ≡ padded 1365 plan.choices
      pub found : choices_in m q r.choices ≡ ok plan.choices

    pub shown_plan : (p : PlanRecord) → v ≡ YesPlan p → Shown p
    unfolding verdict_code choices_code verdict_on verdict_in
    shown_plan p e = by judged_so refl (sym said.1 ∙ e) said.2 (verdict_read m q)
      where
        read : (l : logic.ShownPlan) (c : Checked (List ℕ)) → verdict_in c (verdict_code (logic.yes_plan l)) ≡ some (logic.yes_plan l) → c ≡ ok l.choices
        read l (ok cs) z = let y : cs ≡ l.choices = cc in ap ok y
        read l (refused k) z = let y : ◌≡◌ {A = ℕ} 0 1 = cc in absurd (omega arith)

        by : (l : logic.Verdict) → l ≡ judged_so → verdict_code l ≡ YesPlan p → r.choices ≡ choices_code l
            → verdict_on (some m) (some q) (choices_code judged_so) (verdict_code judged_so) ≡ some judged_so → Shown p
        by (logic.no y) j z c w = let n : ◌≡◌ {A = ℕ} 0 1 = cc in absurd (omega arith)
        by logic.yes j z c w = let n : ◌≡◌ {A = ℕ} 0 1 = cc in absurd (omega arith)
        by (logic.yes_plan y) j z c w =
            let t : y.total ≡ p.total = cc in
            record {
              plan = y;
              is = j;
              total = sym t;
              beside = c;
              found =
                  ap (choices_in m q) c
                  ∙ read y (choices_in m q (padded 1365 y.choices))
                  (subst (λ l. verdict_on (some m) (some q) (choices_code l) (verdict_code l) ≡ some l) (sym j) w);
            }

-- ---- the sheet of a shown plan

module _ (model question : Bytes) (passed : refusal (read_model model) ≡ 0)
    (asked : refusal (read_question (byte model 2) (byte model 3) (byte model 4) question) ≡ 0) where
  abbrev M : Model
  M = model_of model

  abbrev Q : Question
  Q = question_of question

  module _ (p : logic.ShownPlan) (e : logic.yes_plan p ≡ verdict M Q.start Q.root) where
    -- The root sets a bound on plans.
    pub root_shown : PlanRoot model question
    root_shown = record { passed = passed; asked = asked; sets = by (sets_bound (root_node question).operator) refl }
      where
        by : (t : Bool) → sets_bound (root_node question).operator ≡ t → t ≡ true
        by true o = refl
        by false o =
            absurd (not_ok (sym (other_goal (accepted _ _ _ question asked).formed M Q.start o) ∙ (verdict_goal M Q.start Q.root p e).1))

    steps_are : (root_node question).n ≡ p.steps
    steps_are =
        let g = verdict_goal M Q.start Q.root p e in
        let same : asked_goal model question ≡ g.0 = ok_same (sym (goal_is model question root_shown) ∙ g.1) in
        ap (λ (x : Goal). x.steps) same ∙ g.2

    -- What is told of its sheet is told of the question.
    pub sheet_told : {total : ℤ} {cs : List ℕ} {n : ℕ} (size : ℕ) → total ≡ p.total → cs ≡ padded 1365 p.choices → n ≡ length p.choices
        → told_sheet question size total (take n cs) ≡ told_of Q.start size (logic.yes_plan p)
    unfolding told_sheet told_of question_of padded
    sheet_told {total} {cs} {n} size i j k =
        let zeros : List ℕ = replicate (1365 - length p.choices) 0 in
        let first : take n cs ≡ p.choices = ap₂ take k j ∙ take-append_seam p.choices zeros in
        ap₂ (λ t l. told_sheet question size t l) i first
        ∙ ap (λ s. guard 12 (leb (length (sheet_bytes s (start_of question) p.total p.choices)) size)
        >> ok (record { answer = true; sheet = sheet_bytes s (start_of question) p.total p.choices })) steps_are

  -- The sheet that is told of the choices beside a verdict with a plan.
  pub shown_told : (r : Ruling) (i : r ≡ ruling (judge_on M Q)) (v : Verdict) (a : r.answer ≡ Ok v) {x : PlanRecord} → Shown M Q r i v a x
      → {total : ℤ} (size : ℕ) → total ≡ x.total
      → told_sheet question size total (take (size_in (choices_in M Q r.choices)) r.choices) ≡ told_on size M Q
  unfolding size_in
  shown_told r i v a w size t =
      sheet_told w.plan w.is size (t ∙ w.total) w.beside (ap size_in w.found) ∙ ap (told_of Q.start size) w.is ∙ told_verdict M Q r i v a size

-- The plan with which choices begin has so many of them.
pub plan_first : (model question : Bytes) → PlanRoot model question → (cs : List ℕ) → Begins model question cs
    → let n = size_in (choices_in (model_of model) (question_of question) cs) in
    (n ≤ length cs) × (choices_in (model_of model) (question_of question) cs ≡ ok (take n cs))
unfolding size_in
plan_first model question root cs b =
    let w = first_choices model question root cs b.plan b.found in
    let e : size_in (choices_in (model_of model) (question_of question) cs) ≡ length b.plan = ap size_in b.found in
    (omega (arith, w.1), b.found ∙ ap ok (w.2 ∙ ap (λ k. take k cs) (sym e)))

-- The two ways of a sheet: there is room for it, or there is not.
module _ (question : Bytes) (total : ℤ) (cs found : List ℕ) where
  abbrev sheet_of_plan : Bytes
  sheet_of_plan = sheet_bytes (root_node question).n (start_of question) total cs

  sheet_size : length sheet_of_plan ≡ 512 * blocks_for (length cs)
  sheet_size = sheet_length (root_node question).n (start_of question) total cs

  abbrev by_room : Bool → Checked Told
  by_room t = guard 12 t >> ok (record { answer = true; sheet = sheet_of_plan })

  pub short_told : length found < 512 * blocks_for (length cs) → Tells (told_sheet question (length found) total cs) found found 112
  unfolding told_sheet
  short_told h = refusal_told found (ap by_room (lt-leb (length sheet_of_plan) (length found) (omega (arith, sheet_size))))

  pub sheet_told_whole : 512 * blocks_for (length cs) ≤ length found → (r : ℕ) → r ≡ 512 * blocks_for (length cs) → (left : Bytes) → left ≡ sheet_of_plan ++ drop r found
      → Tells (told_sheet question (length found) total cs) found left 1
  unfolding told_sheet
  sheet_told_whole h r i left j =
      let e : by_room (leb (length sheet_of_plan) (length found)) ≡ by_room true = ap by_room (le-leb (length sheet_of_plan) (length found) (omega (arith, sheet_size))) in
      told_same (sym e) (record { number = refl; buffer = j ∙ ap (λ k. sheet_of_plan ++ drop k found) (i ∙ sym sheet_size) })
