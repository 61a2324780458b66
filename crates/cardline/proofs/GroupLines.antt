-- The lines of a group, its count, and the lines of a text that comes in pieces, group by group.
-- Assumes nothing.
use Prim.Native.Nat.{ℕ, zero, suc, ◌+◌, ◌-◌, ◌≤◌, ◌<◌, min}
use mathlib.Core.Path.{◌≡◌, refl, sym, ap, ◌∙◌}
use mathlib.Core.List.{List, [], ◌∷◌, ◌++◌, map, append-nil, append_assoc}
use native.Mathlib.Omega.{arith}
use lib.ListN.{length, get_or, take, drop}
use Rattle.std.proofs.Common.{Option, None, Result, Ok}
use Rattle.std.proofs.lemmas.List.{map-append, take_more}
use Rattle.files.specs.Files.{Files}
use Rattle.files.proofs.Decodes as files
use Rattle.steps.specs.Steps.{steps_a_day}
use Rattle.lines.specs.declared.RowText.{RowText}
use Rattle.lines.specs.declared.Reader.{Reader}
use Rattle.lines.specs.Text.{in_front, rows_of}
use Rattle.lines.specs.Summary.{summary_of}
use Rattle.lines.specs.Stream.{start, after, ended, last, read_rows}
use Rattle.lines.proofs.Reading.{rows_read, after-pieces, ended-pieces}
use Rattle.card.specs.Row.{read_kept}
use Rattle.cardsite.specs.Start.{start_of}
use Rattle.roll.specs.Words.{rows_a_group, starts_in}
use Rattle.roll.specs.Enrol.{with_rows}
use Rattle.roll.proofs.RollRows.{rolled_rows}
use Rattle.survey.specs.Survey.{files_then, row_answer, kept_answer}
use Rattle.survey.proofs.RowLaws.{kept_law}
use Rattle.group.specs.Group.{roll_answers}
use Rattle.group.specs.Given.{answer_read}
use Rattle.cardline.specs.Cardline.{row_line, joined, card_printout}
use Rattle.cardline.specs.Groups.{group_lines, pieces_rows, groups_with, groups_of, kept_lines, printed}
use Rattle.cardline.specs.Laws.{GroupLaw, GroupsLaw, PiecesLaw, DecodesLaw}

-- lines after lines
joined-append : (a b : List (List ℕ)) → joined (a ++ b) ≡ joined a ++ joined b
unfolding joined
joined-append [] b = refl
joined-append (l ∷ a) b = ap (l ++◌) (joined-append a b) ∙ sym (append_assoc l (joined a) (joined b))

-- the lines that the code puts, one more after the others
pub lines_more : (answers : List (Result (Option ℕ) ℕ)) (i : ℕ) → i < length answers
    → joined (map row_line (map answer_read (take i answers))) ++ row_line (answer_read (get_or answers i (Ok None))) ≡ joined (map row_line (map answer_read (take (i + 1) answers)))
unfolding joined
lines_more answers i h =
    let a = get_or answers i (Ok None) in
    let before = map answer_read (take i answers) in
    sym
    (ap (λ xs. joined (map row_line (map answer_read xs))) (take_more answers i (Ok None) h)
    ∙ ap (λ xs. joined (map row_line xs)) (map-append answer_read (take i answers) (a ∷ []))
    ∙ ap joined (map-append row_line before (answer_read a ∷ []))
    ∙ joined-append (map row_line before) (row_line (answer_read a) ∷ [])
    ∙ ap (joined (map row_line before) ++◌) (append-nil (row_line (answer_read a))))

-- LAW: the rows of a group are printed as each is alone
kept_answers : (f : Files) (rows : List RowText) → map row_line (map (files_then steps_a_day f) (map (λ (kept : RowText). start_of (read_kept kept)) rows)) ≡ map (λ (kept : RowText). row_line (kept_answer steps_a_day f kept)) rows
unfolding kept_answer
kept_answers f [] = refl
kept_answers f (row ∷ rows) = ap (row_line (kept_answer steps_a_day f row) ∷◌) (kept_answers f rows)

pub group_law : GroupLaw
unfolding group_lines roll_answers kept_lines starts_in
group_law f rows few roll long =
    let all : min (length rows) rows_a_group ≡ 0 + length rows = omega arith in
    ap (λ n. joined (map row_line (map (files_then steps_a_day f) (starts_in n (with_rows 0 rows roll))))) all
    ∙ ap (λ xs. joined (map row_line (map (files_then steps_a_day f) xs))) (rolled_rows 0 rows roll long (omega arith))
    ∙ ap joined (kept_answers f rows)

-- LAW: rows in groups
groups_many : (k : ℕ) (rows : List RowText) → k < length rows → groups_with k rows ≡ take k rows ∷ groups_of (drop k rows)
unfolding groups_with in_front
groups_many k [] h = absurd (omega arith)
groups_many zero (row ∷ rows) h = refl
groups_many (suc k) (row ∷ rows) h = ap (in_front row) (groups_many k rows (omega arith))

groups_few : (k : ℕ) (row : RowText) (rows : List RowText) → suc (length rows) ≤ k → groups_with k (row ∷ rows) ≡ (row ∷ rows) ∷ []
unfolding groups_with in_front
groups_few zero row rows h = absurd (omega arith)
groups_few (suc k) row [] h = refl
groups_few (suc k) row (next ∷ rows) h = ap (in_front row) (groups_few k next rows (omega arith))

one_group : (rows : List RowText) → 0 < length rows → length rows ≤ rows_a_group → groups_of rows ≡ rows ∷ []
one_group [] some few = absurd (omega arith)
one_group (row ∷ rows) some few = groups_few rows_a_group row rows few

pub groups_law : GroupsLaw
unfolding groups_with
groups_law = record { more = groups_many rows_a_group; last = one_group; none = refl }

-- the lines of rows after other rows
lines_join : (f : Files) (a b : List RowText) → kept_lines f (a ++ b) ≡ kept_lines f a ++ kept_lines f b
unfolding kept_lines
lines_join f a b = ap joined (map-append _ a b) ∙ joined-append _ _

-- rows are printed in groups as they are printed at once
first_lines : (f : Files) (row : RowText) (groups : List (List RowText)) → joined (map (kept_lines f) (in_front row groups)) ≡ kept_lines f (row ∷ []) ++ joined (map (kept_lines f) groups)
unfolding in_front joined
first_lines f row [] = refl
first_lines f row (g ∷ groups) =
    ap (◌++ joined (map (kept_lines f) groups)) (lines_join f (row ∷ []) g) ∙ append_assoc (kept_lines f (row ∷ [])) (kept_lines f g) (joined (map (kept_lines f) groups))

groups_lines : (f : Files) (k : ℕ) (rows : List RowText) → joined (map (kept_lines f) (groups_with k rows)) ≡ kept_lines f rows
unfolding groups_with joined kept_lines
groups_lines f k [] = refl
groups_lines f zero (row ∷ rows) = first_lines f row (groups_with (rows_a_group - 1) rows) ∙ ap (kept_lines f (row ∷ []) ++◌) (groups_lines f (rows_a_group - 1) rows) ∙ sym (lines_join f (row ∷ []) rows)
groups_lines f (suc k) (row ∷ rows) = first_lines f row (groups_with k rows) ∙ ap (kept_lines f (row ∷ []) ++◌) (groups_lines f k rows) ∙ sym (lines_join f (row ∷ []) rows)

pub decodes_law : DecodesLaw
decodes_law f n roll = files.decodes_law f

-- the rows of a text's pieces are those of the text
pieces_rows_lem : (r : Reader) (pieces : List (List ℕ)) → pieces_rows r pieces ≡ ended r (joined pieces) ++ last (after r (joined pieces))
unfolding pieces_rows joined ended
pieces_rows_lem r [] = refl
pieces_rows_lem r (piece ∷ pieces) =
    ap (ended r piece ++◌) (pieces_rows_lem (after r piece) pieces)
    ∙ sym (append_assoc (ended r piece) (ended (after r piece) (joined pieces)) (last (after (after r piece) (joined pieces))))
    ∙ rw (ended-pieces r piece (joined pieces), after-pieces r piece (joined pieces))

-- the lines of the rows of a text
text_lines : (f : Files) (rows : List (List ℕ)) → kept_lines f (map summary_of rows) ≡ joined (map (λ (row : List ℕ). row_line (row_answer steps_a_day f row)) rows)
unfolding kept_lines joined
text_lines f [] = refl
text_lines f (row ∷ rows) =
    ap (λ a. row_line a ++ kept_lines f (map summary_of rows)) (kept_law steps_a_day f row) ∙ ap (row_line (row_answer steps_a_day f row) ++◌) (text_lines f rows)

pub pieces_law : PiecesLaw
unfolding printed card_printout read_rows
pieces_law f pieces =
    groups_lines f rows_a_group (pieces_rows start pieces) ∙ ap (kept_lines f) (pieces_rows_lem start pieces ∙ rows_read (joined pieces)) ∙ text_lines f (rows_of (joined pieces))
