-- `group::given::GroupAnswers::put_words` meets its contract: the answers so far are in words.
use Rattle.std.proofs.Common.{length, map, take}
use Rattle.group.specs.Given.{answer_read}
use Rattle.group.proofs.AnswerWords.{Answering}
use Rattle.group.proofs.given.GroupAnswers.put_words.Given as goal

abbrev pub invariant-loop-i : goal.invariant-loop-i
invariant-loop-i l = Answering l.initial.words (length l.answer-items) (map answer_read (take l.i l.answer-items)) l.words l.i
