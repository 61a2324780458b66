-- The rows of a text put on the roll: the loop over them.
-- Assumes nothing.
use Prim.Native.Nat.{ℕ, zero, suc, ◌+◌, ◌-◌, ◌≤◌, ◌<◌}
use mathlib.Core.Path.{◌≡◌, refl, sym, ap, ap₂, ◌∙◌}
use mathlib.Core.Bool.{Bool, true, false, cond}
use mathlib.Core.List.{List, [], ◌∷◌, ◌++◌, map, append-nil, append_assoc}
use native.Mathlib.Omega.{arith}
use native.Mathlib.Decide.{dec_lt}
use borrow.Author.Tests.{le-leb, lt-leb}
use lib.ListN.{length, take, drop, length-append, length-map, length-drop, drop_of_length-le}
use lib.Seq.{drop-drop, take_at, take_all, length-take-le}
use Rattle.lines.specs.declared.RowText.{RowText}
use Rattle.lines.specs.declared.Reader.{Reader}
use Rattle.lines.specs.Walk.{Walk}
use Rattle.lines.specs.Text.{lines_of, line_start}
use Rattle.lines.specs.Summary.{summary_of}
use Rattle.lines.specs.Stream.{row_start, ended, last}
use Rattle.lines.specs.Walk.{walk_of, row_in}
use Rattle.lines.proofs.Reading.{plain_rows}
use Rattle.lines.proofs.Walks.{walked}
use Rattle.lines.proofs.LineStarts.{LineWalked, line_walked, rows_left, left_walked}
use Rattle.card.specs.Row.{read_row, read_kept}
use Rattle.card.proofs.Rows.{row_read}
use Rattle.cardsite.specs.Start.{Start, start_of}
use Rattle.roll.specs.Enrolled.{Enrolled}
use Rattle.roll.specs.Words.{rows_a_group, roll_words, starts_in}
use Rattle.roll.specs.Enrol.{with_row, enrolled, rolled, count_with_last, rolled_last, group_of}
use Rattle.roll.specs.Internal.{TextEnrolled}
use Rattle.roll.proofs.RollRows.{with_row_long, roll_law}

-- what becomes of rows, of what is kept of them, and of a text's lines
abbrev starts_kept : List RowText → List Start
starts_kept rows = map (λ (kept : RowText). start_of (read_kept kept)) rows

abbrev starts_of : List (List ℕ) → List Start
starts_of rows = map (λ (row : List ℕ). start_of (read_row row)) rows

starts_kept_lem : (rows : List (List ℕ)) → starts_kept (map summary_of rows) ≡ starts_of rows
starts_kept_lem [] = refl
starts_kept_lem (row ∷ rows) = ap₂ ◌∷◌ (ap start_of (row_read row)) (starts_kept_lem rows)

starts_take : (n : ℕ) (rows : List (List ℕ)) → take n (starts_of rows) ≡ starts_of (take n rows)
starts_take zero rows = refl
starts_take (suc n) [] = refl
starts_take (suc n) (row ∷ rows) = ap (start_of (read_row row) ∷◌) (starts_take n rows)

pub starts_long : (n : ℕ) (roll : List ℕ) → length (starts_in n roll) ≡ n
unfolding starts_in
starts_long zero roll = refl
starts_long (suc n) roll = length-append (starts_in n roll) _ ∙ omega (arith, starts_long n roll)

-- n rows are on the roll, and the text is read up to place `at`
pub record InText (text roll : List ℕ) (r : Reader) (n at : ℕ) : Type 0 where
  pub reach : n ≤ rows_a_group
  pub within : at ≤ length text
  pub long : length roll ≡ roll_words
  pub fresh : at < length text → r ≡ row_start
  pub next : line_start rows_a_group text ≡ at + line_start (rows_a_group - n) (drop at text)
  pub rows : starts_in n roll ++ starts_kept (rows_left r (drop at text)) ≡ starts_of (lines_of text)

pub text_start : (text roll : List ℕ) {r : Reader} → length roll ≡ roll_words → r ≡ row_start → InText text roll r 0 0
unfolding starts_in
text_start text roll long e =
    record {
      reach = omega arith;
      within = omega arith;
      long = long;
      fresh = λ h. e;
      next = omega arith;
      rows = rw e (ap starts_kept (plain_rows text) ∙ starts_kept_lem (lines_of text));
    }

module _ {text roll : List ℕ} {r : Reader} {n at : ℕ} (inv : InText text roll r n at) where
  module _ (h : n < rows_a_group) (more : at < length text) where
    abbrev rest : List ℕ
    rest = drop at text

    abbrev walk : Walk
    walk = walk_of r rest

    rest_long : length rest ≡ length text - at
    rest_long = length-drop at text

    line : (k : ℕ) → LineWalked k rest walk
    unfolding row_start
    line k = line_walked k r (ap (λ (x : Reader). x.headings) (inv.fresh more)) rest

    passed : starts_in n roll ++ starts_kept (row_in walk ++ rows_left walk.reader (drop (at + walk.used) text)) ≡ starts_of (lines_of text)
    passed =
        ap (λ l. starts_in n roll ++ starts_kept (row_in walk ++ rows_left walk.reader l)) (sym (drop-drop walk.used at text))
        ∙ ap (λ l. starts_in n roll ++ starts_kept l) (left_walked r rest) ∙ inv.rows

    row_taken : walk.ended ≡ true → InText text (with_row n walk.row roll) walk.reader (n + 1) (at + walk.used)
    row_taken e =
        record {
          reach = omega arith;
          within = omega (arith, (walked r rest).within, rest_long);
          long = with_row_long roll inv.long n h walk.row;
          fresh = λ g. (line 0).fresh e;
          next = next_line;
          rows =
              rw (roll_law roll inv.long n h walk.row, append_assoc (starts_in n roll) _ _)
              (rw e at passed);
        }
      where
        next_line : line_start rows_a_group text ≡ at + walk.used + line_start (rows_a_group - (n + 1)) (drop (at + walk.used) text)
        next_line =
            let k : rows_a_group - n ≡ suc (rows_a_group - (n + 1)) = omega arith in
            let l = (line (rows_a_group - (n + 1))).line e in
            inv.next ∙ ap (λ m. at + line_start m rest) k ∙ ap (at +◌) (l ∙ ap (λ t. walk.used + line_start (rows_a_group - (n + 1)) t) (drop-drop walk.used at text)) ∙ omega arith

    text_ended : walk.ended ≡ false → InText text roll walk.reader n (at + walk.used)
    unfolding line_start
    text_ended e =
        record {
          reach = inv.reach;
          within = omega (arith, (walked r rest).within, rest_long);
          long = inv.long;
          fresh = λ g. absurd (omega (arith, all));
          next = next_end;
          rows = rw e at passed;
        }
      where
        all : at + walk.used ≡ length text
        all = omega (arith, (walked r rest).whole e, rest_long)

        none_left : drop (at + walk.used) text ≡ []
        none_left = drop_of_length-le text {i = at + walk.used} (omega (arith, all))

        next_end : line_start rows_a_group text ≡ at + walk.used + line_start (rows_a_group - n) (drop (at + walk.used) text)
        next_end =
            let k : rows_a_group - n ≡ suc (rows_a_group - (n + 1)) = omega arith in
            let l = (line (rows_a_group - (n + 1))).end e in
            inv.next ∙ ap (λ m. at + line_start m rest) k ∙ ap (at +◌) (l ∙ rest_long)
            ∙ (let d : at + (length text - at) ≡ at + walk.used + 0 = omega (arith, all) in d)
            ∙ ap (at + walk.used +◌) (sym (ap₂ line_start k none_left))

    -- by what the code has read of the rest, as it is lent
    abbrev part : List ℕ
    part = take (length text - at) rest

    module _ {y : Enrolled} {after : List ℕ} (ey : y ≡ enrolled r part n) (ea : after ≡ rolled r part n roll) where
      lent : part ≡ rest
      lent = take_all (length text - at) rest (omega (arith, rest_long))

      taken_is : y ≡ record { reader = walk.reader; used = walk.used; count = cond walk.ended (n + 1) n }
      unfolding enrolled
      taken_is = ey ∙ rw (lt-leb rows_a_group n h, lent)

      rolled_is : after ≡ cond walk.ended (with_row n walk.row roll) roll
      unfolding rolled
      rolled_is = ea ∙ rw (lt-leb rows_a_group n h, lent)

      by_end : (t : Bool) → walk.ended ≡ t → InText text (cond t (with_row n walk.row roll) roll) walk.reader (cond t (n + 1) n) (at + walk.used)
      by_end true e = row_taken e
      by_end false e = text_ended e

      pub text_next : InText text after y.reader y.count (at + y.used)
      text_next = rw (taken_is, rolled_is) (by_end walk.ended refl)

      pub text_onward : 0 < y.used
      text_onward = rw taken_is ((walked r rest).onward (omega (arith, rest_long)))

      pub text_within : at + y.used ≤ length text
      text_within = rw taken_is (omega (arith, (walked r rest).within, rest_long))

  -- the end: a full roll
  lines_all : (m : ℕ) (full : List ℕ) (more : List Start) → starts_in m full ++ more ≡ starts_of (lines_of text) → length (lines_of text) ≡ m + length more
  lines_all m full more e =
      sym (length-map (lines_of text) _) ∙ sym (ap length e) ∙ length-append (starts_in m full) more ∙ ap (◌+ length more) (starts_long m full)

  pub rows_full : rows_a_group ≤ n → TextEnrolled text roll (record { count = n; next = at })
  unfolding group_of line_start
  rows_full full =
      let whole : n ≡ rows_a_group = omega (arith, inv.reach) in
      let more = starts_kept (rows_left r (drop at text)) in
      let many : rows_a_group ≤ length (lines_of text) = omega (arith, lines_all n roll more inv.rows, full) in
      let none : rows_a_group - n ≡ 0 = omega arith in
      record {
        count = whole ∙ sym (length-take-le rows_a_group (lines_of text) many);
        next = sym (inv.next ∙ ap (λ k. at + line_start k (drop at text)) none ∙ omega arith);
        rows =
            sym (take_at (starts_in n roll) more rows_a_group (starts_long n roll ∙ whole)) ∙ ap (take rows_a_group) inv.rows
            ∙ starts_take rows_a_group (lines_of text);
      }

  -- all rows of the text
  module _ (h : n < rows_a_group) (end : length text ≤ at) where
    none_left : drop at text ≡ []
    none_left = drop_of_length-le text {i = at} end

    next_is : at ≡ line_start rows_a_group text
    unfolding line_start
    next_is =
        let k : rows_a_group - n ≡ suc (rows_a_group - (n + 1)) = omega arith in
        sym (inv.next ∙ ap₂ (λ m l. at + line_start m l) k none_left ∙ omega arith)

    rows_left_lem : starts_in n roll ++ starts_kept (last r) ≡ starts_of (lines_of text)
    unfolding ended
    rows_left_lem = rw none_left at inv.rows

    all_taken : (m : ℕ) (full : List ℕ) → m ≤ rows_a_group → starts_in m full ≡ starts_of (lines_of text) → TextEnrolled text full (record { count = m; next = at })
    unfolding group_of
    all_taken m full few e =
        let many : length (lines_of text) ≡ m + 0 = lines_all m full [] (append-nil (starts_in m full) ∙ e) in
        let all : take rows_a_group (lines_of text) ≡ lines_of text = take_all rows_a_group (lines_of text) (omega (arith, many)) in
        record { count = rw all (omega (arith, many)); next = next_is; rows = rw all e }

    by_begun : (t : Bool) → r.begun ≡ t → TextEnrolled text (cond t (with_row n r.row roll) roll) (record { count = cond t (n + 1) n; next = at })
    unfolding last
    by_begun true e = all_taken (n + 1) _ (omega arith) (roll_law roll inv.long n h r.row ∙ rw e at rows_left_lem)
    by_begun false e = all_taken n roll inv.reach (sym (append-nil (starts_in n roll)) ∙ rw e at rows_left_lem)

  -- the end of the text, and a full roll
  module _ {m : ℕ} {full : List ℕ} (em : m ≡ count_with_last r n) (ef : full ≡ rolled_last r n roll) where
    pub roll_full : rows_a_group ≤ n → TextEnrolled text full (record { count = m; next = at })
    unfolding count_with_last rolled_last
    roll_full h = rw (em, ef, le-leb rows_a_group n h) (rows_full h)

    pub text_end : length text ≤ at → TextEnrolled text full (record { count = m; next = at })
    unfolding count_with_last rolled_last
    text_end end = by (dec_lt n rows_a_group)
      where
        by : Dec (n < rows_a_group) → TextEnrolled text full (record { count = m; next = at })
        by (yes h) = rw (em, ef, lt-leb rows_a_group n h) (by_begun h end r.begun refl)
        by (no h) = roll_full (omega arith)
