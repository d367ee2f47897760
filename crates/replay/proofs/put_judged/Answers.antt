-- The choices of the shown plan are in the array.
use Rattle.std.proofs.Common.{◌≡◌, ◌≤◌, rules, arith, length, sym, length-take-le}
use Rattle.replay.proofs.Sizes.{shown_few}
use Rattle.replay.proofs.put_judged.Goals as goal

pub slice_bounds-choices-end : goal.slice_bounds-choices-end
slice_bounds-choices-end c =
    let held : length c.args.r.desk.choices ≡ 1365 = search rules in
    let there : length c.args.r.choices ≡ 1365 = search rules in
    omega (arith, c.shown_choices-count.ensures, shown_few c.args.r.desk)

pub slice_bounds-put_verdict-end : goal.slice_bounds-put_verdict-end
slice_bounds-put_verdict-end c =
    let held : length c.args.r.desk.choices ≡ 1365 = search rules in
    let there : length c.args.r.choices ≡ 1365 = search rules in
    let few : c.shown_choices-count.result ≤ length c.args.r.choices = omega (arith, c.shown_choices-count.ensures, shown_few c.args.r.desk) in
    sym (length-take-le c.shown_choices-count.result c.args.r.choices few)
