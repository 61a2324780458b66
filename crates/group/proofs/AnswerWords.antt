-- The answers of a group in words: a pair is put behind the others, and the places past them are kept.
-- Assumes nothing.
use Prim.Native.Nat.{ℕ, ◌+◌, ◌*◌, ◌≤◌, ◌<◌}
use mathlib.Core.Path.{◌≡◌, refl, sym, ap, ◌∙◌}
use mathlib.Core.List.{List, [], ◌∷◌, ◌++◌, map, append-nil, append_assoc}
use native.Mathlib.Omega.{arith}
use lib.ListN.{length, get_or, take, drop, length-append}
use Rattle.std.proofs.Common.{Option, None, Result, Ok}
use Rattle.std.proofs.lemmas.List.{take_more, map-append}
use Rattle.numbers.specs.Parts.{placed}
use Rattle.numbers.proofs.Parts.{placed-next, placed_long}
use Rattle.survey.specs.RowAnswer.{RowAnswer}
use Rattle.survey.specs.RowAnswer.{Blood, Skipped, Refused}
use Rattle.roll.specs.Words.{rows_a_group}
use Rattle.group.specs.Group.{words_an_answer, answers_long, answer_words, group_words, answered}
use Rattle.group.specs.Given.{answer_read}

-- two words each
pub answer_long : (a : RowAnswer) → length (answer_words a) ≡ words_an_answer
answer_long (Blood b) = refl
answer_long Skipped = refl
answer_long (Refused n) = refl

words_long : (given : List RowAnswer) → length (group_words given) ≡ words_an_answer * length given
unfolding group_words
words_long [] = refl
words_long (a ∷ given) = length-append (answer_words a) (group_words given) ∙ omega (arith, answer_long a, words_long given)

words_append : (given : List RowAnswer) (a : RowAnswer) → group_words (given ++ (a ∷ [])) ≡ group_words given ++ answer_words a
unfolding group_words
words_append [] a = append-nil (answer_words a)
words_append (b ∷ given) a = ap (answer_words b ++◌) (words_append given a) ∙ sym (append_assoc (answer_words b) (group_words given) (answer_words a))

-- THE LOOP over the rows: the answers so far
pub record Answering (lent : List ℕ) (n : ℕ) (given : List RowAnswer) (l : List ℕ) (i : ℕ) : Type 0 where
  pub reach : i ≤ n
  pub many : length given ≡ i
  pub long : length l ≡ answers_long
  pub same : l ≡ answered given lent

pub none_answered : (lent : List ℕ) (n : ℕ) → length lent ≡ answers_long → Answering lent n [] lent 0
unfolding group_words
none_answered lent n long = record { reach = omega arith; many = refl; long = long; same = refl }

pub next-answered : {lent : List ℕ} {n : ℕ} {given : List RowAnswer} {l : List ℕ} {i : ℕ} → Answering lent n given l i → i < n → n ≤ rows_a_group → (a : RowAnswer) {l' : List ℕ}
    → l' ≡ placed words_an_answer i (answer_words a) l → Answering lent n (given ++ (a ∷ [])) l' (i + 1)
next-answered {lent} {n} {given} {l} {i} inv h few a e =
    record {
      reach = omega arith;
      many = more;
      long = rw e (placed_long words_an_answer rows_a_group l i (answer_words a) inv.long (omega arith) (answer_long a));
      same = e ∙ placed-next words_an_answer i (group_words given) (answer_words a) lent l (words_long given ∙ ap (words_an_answer *◌) inv.many) here ∙ then;
    }
  where
    more : length (given ++ (a ∷ [])) ≡ i + 1
    more = length-append given (a ∷ []) ∙ omega (arith, inv.many)

    here : l ≡ group_words given ++ drop (words_an_answer * i) lent
    here = inv.same ∙ ap (λ k. group_words given ++ drop (words_an_answer * k) lent) inv.many

    then : (group_words given ++ answer_words a) ++ drop (words_an_answer * i + words_an_answer) lent ≡ answered (given ++ (a ∷ [])) lent
    then =
        let k : words_an_answer * i + words_an_answer ≡ words_an_answer * length (given ++ (a ∷ [])) = omega (arith, more) in
        rw (words_append given a, k)

-- of the answers that the code has
pub answer_more : {lent : List ℕ} (answers : List (Result (Option ℕ) ℕ)) (i : ℕ) {l l' : List ℕ} → Answering lent (length answers) (map answer_read (take i answers)) l i → i < length answers → length answers ≤ rows_a_group
    → l' ≡ placed words_an_answer i (answer_words (answer_read (get_or answers i (Ok None)))) l → Answering lent (length answers) (map answer_read (take (i + 1) answers)) l' (i + 1)
answer_more {lent} answers i {l} {l'} inv h few e =
    let more : map answer_read (take (i + 1) answers) ≡ map answer_read (take i answers) ++ (answer_read (get_or answers i (Ok None)) ∷ []) = ap (map answer_read) (take_more answers i (Ok None) h) ∙ map-append answer_read (take i answers) (get_or answers i (Ok None) ∷ []) in
    rw more (next-answered inv h few (answer_read (get_or answers i (Ok None))) e)
