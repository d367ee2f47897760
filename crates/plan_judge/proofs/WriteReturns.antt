-- What write returns and leaves in the buffer, at each return of the code: past the grounds of the state it is the sheet of the plan with
-- which the desk's choices begin, or ground 23, then 12.
use Prim.Native.Nat.{ℕ, ◌*◌, ◌-◌, ◌≤◌, ◌<◌}
use native.Mathlib.Omega.{arith}
use mathlib.Core.Path.{◌≡◌, refl, sym, ap, ap₂, ◌∙◌}
use mathlib.Core.List.{List, [], ◌++◌, append-nil}
use mathlib.Core.Option.{Option, none, some}
use lib.Dec.{leb}
use lib.ListN.{length, take, drop, length-append}
use lib.Seq.{take-append_seam, length-take-le}
use borrow.Author.Tests.{le-leb, lt-leb}
use Rattle.std.specs.Prelude.{Option as Optional, Some, None, Ok, Err}
use Rattle.refusals.specs.declared.Refusal.{Refusal}
use Rattle.refusals.specs.declared.Refusal.TheVariants.{SmallBuffer, NoPlanShown}
use Rattle.refusals.specs.Number.{number}
use Rattle.refusals.specs.promises.Named.{named}
use Rattle.refusals.proofs.Named.{named_number, number_some}
use Rattle.logic.specs.Checked.{Checked, ok, refused, ◌>>=◌, ◌>>◌, guard}
use Rattle.logic.specs.promises.Refusal.{refusal, held}
use Rattle.logic.specs.Model.{Model}
use Rattle.logic.specs.Plan.{Plan, choices}
use Rattle.logic.specs.Verdict.{Goal, goal}
use Rattle.logic.specs.Verdict as logic
use Rattle.logic.specs.Choices.{read_plan}
use Rattle.logic.proofs.Checked.{bind_ok, ok_same}
use Rattle.logic.proofs.Reading.{read_sound, read_complete}
use Rattle.blocks.specs.Bytes.{Bytes}
use Rattle.models.specs.Layout.{model_of}
use Rattle.questions.specs.Layout.{Question, start_of, node_count, node_of, question_of}
use Rattle.questions.proofs.AcceptedFacts.{accepted}
use Rattle.questions.proofs.SetsBound.{bound_compares}
use Rattle.sheets.specs.promises.Ends.{end_of, AllRead}
use Rattle.sheets.specs.Layout.{Sheet, sheet_bytes, blocks_for}
use Rattle.sheets.proofs.ReadsBack.{sheet_length}
use Rattle.protocol.specs.promises.Chains.{sheet_shown, do_write}
use Rattle.plan_judge.specs.declared.Desk.{Desk}
use Rattle.judging.specs.declared.PlanRecord.{PlanRecord}
use Rattle.judging.specs.declared.Verdict.{Verdict}
use Rattle.judging.specs.declared.Verdict.TheVariants.{No, Yes, YesPlan}
use Rattle.plan_judge.specs.View.{choices_in, question_bytes, verdict_in, verdict_on, verdict_held, view}
use Rattle.plan_judge.specs.promises.Values.{writing, written_by, filling, filled_by}
use Rattle.plan_judge.specs.promises.State.{held_both, held_goal, PlanRoot, plan_size, size_in, shown_size, shown_total}
use Rattle.plan_judge.proofs.LoadPutReturn.{said_bytes}
use Rattle.plan_judge.proofs.StateGrounds.{root_goal, both_of, both_asked, plan_asked, goal_refused, root_node, goal_passed}
use Rattle.logic.proofs.MostChoices.{some_choice}

-- ---- the choices of a root that asks for a plan

module _ (m q : Bytes) (r : PlanRoot m q) (cs : List ℕ) where
  abbrev n : ℕ
  n = (node_of q (node_count q - 1)).n

  choices_are : choices_in (model_of m) (question_of q) cs ≡ (read_plan (model_of m) n (start_of q) cs >>= (λ x. ok (choices n x.0)))
  unfolding choices_in question_of
  choices_are =
      ap (λ c. c >>= (λ g. read_plan (model_of m) g.steps (start_of q) cs >>= (λ x. ok (choices g.steps x.0))))
      (root_goal (accepted _ _ _ q r.asked).formed (model_of m) (start_of q) r.sets)

  pub size_choices : plan_size n (read_plan (model_of m) n (start_of q) cs) ≡ size_in (choices_in (model_of m) (question_of q) cs)
  unfolding plan_size size_in
  size_choices = by (read_plan (model_of m) n (start_of q) cs) ∙ sym (ap size_in choices_are)
    where
      by : (c : Checked (Plan n × List ℕ)) → plan_size n c ≡ size_in (c >>= (λ x. ok (choices n x.0)))
      by (ok x) = refl
      by (refused k) = refl

  -- They are the first, and at least one.
  pub first_choices : (l : List ℕ) → choices_in (model_of m) (question_of q) cs ≡ ok l → (1 ≤ length l) × (length l ≤ length cs) × (l ≡ take (length l) cs)
  first_choices l e =
      let x = bind_ok (read_plan (model_of m) n (start_of q) cs) _ (sym choices_are ∙ e) in
      let w = read_sound (model_of m) n (start_of q) cs x.0 x.1 in
      let z : choices n x.0.0 ≡ l = ok_same x.2 in
      let a = (accepted _ _ _ q r.asked).formed in
      let s = (bound_compares (a.in_range (node_count q - 1) (omega (arith, a.some_node))) r.sets).some_step in
      let i : cs ≡ l ++ x.0.1 = w.1 ∙ ap (λ k. k ++ x.0.1) z in
      (omega (arith, some_choice n x.0.0 s, ap length z), omega (arith, ap length i ∙ length-append l x.0.1), sym (ap (take (length l)) i ∙ take-append_seam l x.0.1))

  -- Read by themselves they are the same plan's, and none is left over.
  pub choices_read : (l : List ℕ) → choices_in (model_of m) (question_of q) cs ≡ ok l → AllRead (read_plan (model_of m) n (start_of q) l) l
  unfolding end_of
  choices_read l e =
      let x = bind_ok (read_plan (model_of m) n (start_of q) cs) _ (sym choices_are ∙ e) in
      let z : l ≡ choices n x.0.0 ++ [] = sym (ok_same x.2) ∙ sym (append-nil (choices n x.0.0)) in
      let c : read_plan (model_of m) n (start_of q) l ≡ ok (x.0.0, []) =
      ap (read_plan (model_of m) n (start_of q)) z ∙ read_complete (model_of m) n (start_of q) x.0.0 [] (read_sound (model_of m) n (start_of q) cs x.0 x.1).0 in
      let y : length l - 0 ≡ length l = omega arith in
      sym (ap (end_of (length l)) c ∙ ap Ok y)

-- ---- the shown plan

module _ (d : Desk) (e : refusal (held_goal (view d)) ≡ 0) where
  abbrev found : Checked (List ℕ)
  found = choices_in (model_of (said_bytes d)) (question_of (question_bytes d)) d.choices

  -- A verdict that may be there, with these choices.
  abbrev pub told : Checked (List ℕ) → Optional Verdict → Option logic.Verdict
  told c None = none
  told c (Some v) = verdict_in c v

  held_told : (m : Model) (q : Question) (cs : List ℕ) (v : Optional Verdict) → verdict_held (some m) (some q) cs v ≡ told (choices_in m q cs) v
  unfolding verdict_held verdict_on
  held_told m q cs None = refl
  held_told m q cs (Some v) = refl

  -- The verdict of the desk, by what it holds.
  pub verdict_is : (v : Optional Verdict) → d.verdict ≡ v → (view d).verdict ≡ told found v
  unfolding view
  verdict_is v i =
      let b = both_asked d e in
      ap₂ (λ o p. verdict_held o p d.choices d.verdict) b.held_model b.held_question
      ∙ held_told (model_of (said_bytes d)) (question_of (question_bytes d)) d.choices d.verdict
      ∙ ap (told found) i

  pub shown_found : (c : Checked (List ℕ)) (p : PlanRecord) → size_in c ≡ shown_size (verdict_in c (YesPlan p))
  unfolding size_in shown_size verdict_in
  shown_found (ok l) p = refl
  shown_found (refused k) p = refl

  -- The sheet to write, or ground 23.
  abbrev sheet_held : Option logic.Verdict → Checked Sheet
  sheet_held o = held 23 o >>= sheet_shown

  -- The sheet by the number of choices of the shown plan.
  pub record ShownBy (o : Option logic.Verdict) : Type 0 where
    pub none_shown : shown_size o ≡ 0 → sheet_held o ≡ refused 23
    pub few : shown_size o ≤ length d.choices
    pub there : (shown_size o ≡ 0 → ⊥) → found ≡ ok (take (shown_size o) d.choices)
    pub some_shown : (shown_size o ≡ 0 → ⊥) → sheet_held o ≡ ok (record { weight = shown_total d.verdict; choices = take (shown_size o) d.choices })

  pub shown_by : ShownBy (view d).verdict
  unfolding verdict_in sheet_shown shown_size shown_total
  shown_by = by d.verdict found refl refl
    where
      nothing : (o : Option logic.Verdict) → (view d).verdict ≡ o → shown_size o ≡ 0 → sheet_held o ≡ refused 23 → ShownBy (view d).verdict
      nothing o i z s =
          let y : shown_size (view d).verdict ≡ 0 = ap shown_size i ∙ z in
          record { none_shown = λ _. ap sheet_held i ∙ s; few = omega arith; there = λ h. absurd (h y); some_shown = λ h. absurd (h y) }

      by : (v : Optional Verdict) (c : Checked (List ℕ)) → d.verdict ≡ v → found ≡ c → ShownBy (view d).verdict
      by None c i k = nothing none (verdict_is None i) refl refl
      by (Some (No x)) c i k = nothing _ (verdict_is (Some (No x)) i) refl refl
      by (Some Yes) c i k = nothing (some logic.yes) (verdict_is (Some Yes) i) refl refl
      by (Some (YesPlan p)) (refused x) i k = nothing none (verdict_is (Some (YesPlan p)) i ∙ ap (λ c. verdict_in c (YesPlan p)) k) refl refl
      by (Some (YesPlan p)) (ok l) i k =
          let w = first_choices (said_bytes d) (question_bytes d) (plan_asked d e) d.choices l k in
          let o : (view d).verdict ≡ verdict_in (ok l) (YesPlan p) = verdict_is (Some (YesPlan p)) i ∙ ap (λ c. verdict_in c (YesPlan p)) k in
          let y : shown_size (view d).verdict ≡ length l = ap shown_size o in
          let same : l ≡ take (shown_size (view d).verdict) d.choices = w.2 ∙ ap (λ k. take k d.choices) (sym y) in
          record {
            none_shown = λ z. absurd (omega (arith, w.0));
            few = omega (arith, w.1);
            there = λ _. k ∙ ap ok same;
            some_shown = λ _. ap sheet_held o ∙ ap₂ (λ x z. ok (record { weight = x; choices = z })) (sym (ap shown_total i)) same;
          }

-- Where a ground of the state applies, no plan is shown.
pub not_shown : (d : Desk) → (refusal (held_goal (view d)) ≡ 0 → ⊥) → 0 ≡ shown_size (view d).verdict
unfolding view held_goal held_both verdict_held verdict_on verdict_in shown_size choices_in
not_shown d h = by (view d).model (view d).question d.verdict h
  where
    none_found : (c : Checked Goal) (f : Goal → Checked (List ℕ)) (p : PlanRecord) → (refusal c ≡ 0 → ⊥) → 0 ≡ shown_size (verdict_in (c >>= f) (YesPlan p))
    none_found (ok g) f p i = absurd (i refl)
    none_found (refused k) f p i = refl

    by : (o : Option Model) (p : Option Question) (v : Optional Verdict) → (refusal (both_of o p >>= (λ x. goal x.0 x.1.start x.1.root)) ≡ 0 → ⊥)
        → 0 ≡ shown_size (verdict_held o p d.choices v)
    by o p None i = refl
    by none p (Some v) i = refl
    by (some m) none (Some v) i = refl
    by (some m) (some q) (Some (No x)) i = refl
    by (some m) (some q) (Some Yes) i = refl
    by (some m) (some q) (Some (YesPlan x)) i = none_found (goal m q.start q.root) _ x i

-- ---- what is written

-- The sheet for a goal with these steps, or ground 12.
abbrev sheet_for : (n s size : ℕ) → Sheet → Checked Bytes
sheet_for n s size x =
    guard 12 (leb (length (sheet_bytes n s x.weight x.choices)) size) >> ok (sheet_bytes n s x.weight x.choices)

bind_assoc : {A B C : Type 0} (c : Checked A) (f : A → Checked B) (g : B → Checked C) → (c >>= (λ a. f a >>= g)) ≡ (c >>= f >>= g)
bind_assoc (ok a) f g = refl
bind_assoc (refused k) f g = refl

-- What write does with a goal.
abbrev write_for : Option logic.Verdict → ℕ → Model → Question → Goal → Checked Bytes
write_for o size m q g = held 23 o >>= (λ v. sheet_shown v >>= sheet_for g.steps q.start size)

module _ (d : Desk) (a : Bytes) where
  refused_both : (x : Refusal) → number x ≡ refusal (do_write (view d) (length a)) → (Err x ≡ written_by d (length a)) × (a ≡ filled_by d a)
  unfolding written_by filled_by
  refused_both x e = by (do_write (view d) (length a)) e
    where
      by : (c : Checked Bytes) → number x ≡ refusal c → (Err x ≡ writing c) × (a ≡ filling a c)
      by (ok b) i = absurd (number_some x i)
      by (refused j) i = (ap Err (sym (named_number x) ∙ ap named i), refl)

  pub write_state : (x : Refusal) → number x ≡ refusal (held_goal (view d)) → (Err x ≡ written_by d (length a)) × (a ≡ filled_by d a)
  unfolding do_write
  write_state x e = refused_both x (goal_refused (view d) (write_for (view d).verdict (length a)) (number x) e (number_some x))

  module _ (e : refusal (held_goal (view d)) ≡ 0) where
    abbrev steps : ℕ
    steps = (root_node (question_bytes d)).n

    abbrev start : ℕ
    start = start_of (question_bytes d)

    write_is : do_write (view d) (length a) ≡ (sheet_held d e (view d).verdict >>= sheet_for steps start (length a))
    unfolding do_write question_of
    write_is = goal_passed d e (write_for (view d).verdict (length a)) ∙ bind_assoc (held 23 (view d).verdict) sheet_shown (sheet_for steps start (length a))

    pub write_none : (count : ℕ) → count ≡ shown_size (view d).verdict → count ≡ 0 → (Err NoPlanShown ≡ written_by d (length a)) × (a ≡ filled_by d a)
    write_none count i z =
        refused_both NoPlanShown
        (sym (ap refusal (write_is ∙ ap (λ c. c >>= sheet_for steps start (length a)) ((shown_by d e).none_shown (sym i ∙ z)))))

    module _ (count : ℕ) (i : count ≡ shown_size (view d).verdict) (h : count ≡ 0 → ⊥) where
      abbrev shown : List ℕ
      shown = take count d.choices

      abbrev sheet : Bytes
      sheet = sheet_bytes steps start (shown_total d.verdict) shown

      pub found_shown : found d e ≡ ok shown
      found_shown = (shown_by d e).there (λ z. h (i ∙ z)) ∙ ap (λ k. ok (take k d.choices)) (sym i)

      pub count_few : count ≤ length d.choices
      count_few = omega (arith, (shown_by d e).few)

      pub count_small : length d.choices ≡ 1365 → count ≤ 1365
      count_small k = let l = count_few in omega arith

      shown_length : length shown ≡ count
      shown_length = length-take-le count d.choices count_few

      sheet_size : length sheet ≡ 512 * blocks_for count
      sheet_size = sheet_length steps start (shown_total d.verdict) shown ∙ ap (λ k. 512 * blocks_for k) shown_length

      write_by : do_write (view d) (length a) ≡ (guard 12 (leb (length sheet) (length a)) >> ok sheet)
      write_by =
          write_is
          ∙ ap (λ c. c >>= sheet_for steps start (length a)) ((shown_by d e).some_shown (λ z. h (i ∙ z)))
          ∙ ap (λ k. sheet_for steps start (length a) (record { weight = shown_total d.verdict; choices = take k d.choices })) (sym i)

      pub write_short : length a < 512 * blocks_for count → (Err SmallBuffer ≡ written_by d (length a)) × (a ≡ filled_by d a)
      write_short l =
          refused_both SmallBuffer
          (sym (ap refusal (write_by ∙ ap (λ t. guard 12 t >> ok sheet) (lt-leb (length sheet) (length a) (omega (arith, sheet_size))))))

      pub write_done : 512 * blocks_for count ≤ length a → (r : ℕ) → r ≡ 512 * blocks_for (length shown) → (a' : Bytes) → a' ≡ sheet ++ drop r a
          → (Ok r ≡ written_by d (length a)) × (a' ≡ filled_by d a)
      unfolding written_by filled_by
      write_done l r j a' k =
          let y : r ≡ length sheet = j ∙ sym (sheet_length steps start (shown_total d.verdict) shown) in
          let w : do_write (view d) (length a) ≡ ok sheet = write_by ∙ ap (λ t. guard 12 t >> ok sheet) (le-leb (length sheet) (length a) (omega (arith, sheet_size))) in
          (ap Ok y ∙ sym (ap writing w), k ∙ ap (λ x. sheet ++ drop x a) y ∙ sym (ap (filling a) w))
