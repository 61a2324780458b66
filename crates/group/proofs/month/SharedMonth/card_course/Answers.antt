-- `group::month::SharedMonth::card_course` meets its contract: past its AGE the course rests, else it goes on by a month.
use Rattle.std.proofs.Common.{arith, ◌<◌}
use Rattle.card.specs.Values.{months_of}
use Rattle.steps.specs.Steps.{steps_a_day}
use Rattle.group.proofs.GroupCourses.{own_limits, card_rests, card_month_given, card_goes_on}
use Rattle.group.proofs.month.SharedMonth.card_course.Goals as goal

pub returns-then-age-self : goal.returns-then-age-self
returns-then-age-self c =
    let m = c.args.self.now in
    let running = c.args.running.now in
    λ here. card_rests m.files.ready m.shared running.card running.running steps_a_day c.args.course.now here (omega (arith, c.months-age.ensures, c.if-age-self.true))

pub invariant_of-own : goal.invariant_of-own
invariant_of-own c =
    let m = c.args.self.now in
    let running = c.args.running.now in
    record { within = rw c.row_exposure.ensures (own_limits m.files.ready m.shared running.card running.running m.follows) }

pub returns : goal.returns
returns c =
    let m = c.args.self.now in
    let running = c.args.running.now in
    λ here.
    let on : m.done < months_of running.card.age = omega (arith, c.months-age.ensures, c.if-age-self.false) in
    card_goes_on m.files.ready m.shared running.card running.running steps_a_day c.args.course.now here on c.next_exposed.result
    (c.next_exposed.ensures _ _ (card_month_given m.files.ready m.shared running.card running.running steps_a_day c.args.course.now here on c.row_exposure.ensures))
