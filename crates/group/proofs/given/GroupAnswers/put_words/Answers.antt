-- `group::given::GroupAnswers::put_words` meets its contract: a pair more is put behind the others.
use Rattle.std.proofs.Common.{rules, arith, length, ◌≤◌}
use lib.ListN.{length-take}
use Rattle.numbers.proofs.Parts.{placed_lent}
use Rattle.roll.specs.Words.{rows_a_group}
use Rattle.group.specs.Group.{words_an_answer}
use Rattle.group.proofs.AnswerWords.{none_answered, answer_more}
use Rattle.group.proofs.given.GroupAnswers.put_words.Goals as goal

pub loop-i-init : goal.loop-i-init
loop-i-init c = none_answered _ _ (search rules)

pub loop-i-preserved : goal.loop-i-preserved
loop-i-preserved c =
    let self = c.args.self.now in
    let few : length c.given-answer-items.result.now ≤ rows_a_group = rw c.given-answer-items.ensures (omega (arith, length-take self.count self.rows, self.few)) in
    answer_more _ c.loop-i.i c.loop-i.invariant c.loop-i-test.true few (placed_lent words_an_answer c.loop-i.words c.loop-i.i c.put_answer.ensures)
