-- Two site files that are read alike, but for places without shares, answer the same in every call.
-- Assumes nothing.
use mathlib.Core.Path.{◌≡◌, refl, sym, ap, fun_ext, ◌∙◌}
use mathlib.Core.List.{List}
use Prim.Native.Nat.{ℕ, suc}
use lib.ListN.{length}
use Rattle.numbers.specs.Choice.{tab}
use Rattle.site.specs.declared.Scenario.{Scenario}
use Rattle.site.specs.Limits.{AtHome}
use Rattle.site.specs.Scenario.{without_places}
use Rattle.site.specs.Site.{edition_due, site_refusal}
use Rattle.site.proofs.FieldsWithin.{read_refusal, long_passed}
use Rattle.block.specs.Block.{block_bytes}
use Rattle.row.specs.Row.{last_month}
use Rattle.uptake.specs.Age.{age_of}
use Rattle.kinetics.specs.declared.State.{State}
use Rattle.steps.specs.Steps.{steps_a_day}
use Rattle.child.specs.Answers.{MonthAnswer}
use Rattle.child.specs.Months.{months_by}
use Rattle.files.specs.Files.{FoodsFile, Files, with_foods, before_book_refusal, files_refusal, files_decodes, scenario_in, table_in}
use Rattle.engine.specs.Birth.{birth_refusal, birth_of}
use Rattle.engine.specs.Month.{month_refusal, month_of}
use Rattle.engine.specs.Run.{start_refusal, run_of}
use Rattle.routes.specs.declared.RouteSums.{RouteSums}
use Rattle.routes.specs.Sums.{month_sums, sums_refusal, kept_sums, monthly_sums}
use Rattle.card.specs.Row.{read_row, read_kept}
use Rattle.lines.specs.declared.RowText.{RowText}
use Rattle.cardsite.specs.Start.{Start, start_of}
use Rattle.survey.specs.Survey.{files_then, row_answer, kept_answer}
use Rattle.group.specs.Group.{group_answers, roll_answers}
use Rattle.printout.specs.Printout.{printout}
use Rattle.printout.specs.Lines.{prepared_of}
use Rattle.cardline.specs.Cardline.{card_printout}
use Rattle.cardline.specs.Groups.{group_lines}
use Rattle.converted.specs.Laws.{ReadAlike, files_from, SameCalls, SameLaw}
use Rattle.converted.proofs.SameUptake.{same_nine, same_month_routes}
use Rattle.converted.proofs.SameChild.{same_newborn, same_newborn_refusal, same_child_refusal, same_last}
use Rattle.converted.proofs.SameRows.{same_start}

accepted_long : (site : List ℕ) → site_refusal site ≡ 0 → length site ≡ block_bytes
unfolding site_refusal
accepted_long site passed = long_passed (edition_due site) site passed

module _ (before after : List ℕ) (alike : ReadAlike before after) (foods : FoodsFile) (book : List ℕ) where
  -- the files with the one site file, and with the other
  abbrev f : Files
  f = files_from before foods book

  abbrev g : Files
  g = files_from after foods book

  -- the scenario of the one, and of the other
  abbrev p : Scenario
  p = scenario_in f

  home : AtHome p.dust_places
  home = alike.home

  same_scenario : scenario_in g ≡ without_places p
  same_scenario = ap (with_foods foods) alike.same

  -- ---- why they are refused

  same_site : site_refusal after ≡ site_refusal before
  same_site = alike.accepted_after ∙ sym alike.accepted

  same_length : length after ≡ length before
  same_length = accepted_long after alike.accepted_after ∙ sym (accepted_long before alike.accepted)

  same_before_book : before_book_refusal g ≡ before_book_refusal f
  unfolding before_book_refusal
  same_before_book = rw (same_length, same_site) refl

  same_refusal : files_refusal g ≡ files_refusal f
  unfolding files_refusal
  same_refusal = rw same_before_book refl

  same_decodes : files_decodes g ≡ files_decodes f
  unfolding files_decodes
  same_decodes = rw same_before_book refl

  -- ---- birth, a month and a run

  same_birth_refusal : birth_refusal g ≡ birth_refusal f
  unfolding birth_refusal
  same_birth_refusal = rw (same_refusal, same_scenario, same_newborn_refusal p (table_in f)) refl

  same_birth : birth_of g ≡ birth_of f
  unfolding birth_of
  same_birth = rw (same_birth_refusal, same_scenario, same_newborn p (table_in f)) refl

  same_month_refusal : (s : ℕ) (a : State) → month_refusal s a g ≡ month_refusal s a f
  unfolding month_refusal
  same_month_refusal s a = rw (same_refusal, same_scenario, same_child_refusal p (table_in f) home s a) refl

  same_month : (s : ℕ) (a : State) → month_of s a g ≡ month_of s a f
  unfolding month_of
  same_month s a = rw (same_month_refusal s a, same_scenario, same_last p (table_in f) home s a) refl

  same_start_refusal : (places : ℕ) → start_refusal g places ≡ start_refusal f places
  unfolding start_refusal
  same_start_refusal places = rw (same_length, same_birth_refusal) refl

  same_months : (s : ℕ) (a : State) → months_by (λ b. month_of s b g) last_month a ≡ months_by (λ b. month_of s b f) last_month a
  same_months s a = ap (λ (call : State → MonthAnswer). months_by call last_month a) (fun_ext (same_month s))

  same_run : (s places : ℕ) → run_of s g places ≡ run_of s f places
  unfolding run_of
  same_run s places = rw (same_start_refusal places, same_birth, same_months s (birth_of f).state) refl

  -- ---- the sums of the two gut routes

  same_sums : (m : ℕ) → month_sums g m ≡ month_sums f m
  unfolding month_sums
  same_sums m = rw (same_scenario, same_month_routes p home (table_in f) m) refl

  same_sums_refusal : (m : ℕ) → sums_refusal g m ≡ sums_refusal f m
  unfolding sums_refusal
  same_sums_refusal m = rw (same_refusal, same_scenario, same_nine p home (age_of m)) refl

  same_kept_sums : (m : ℕ) → kept_sums g m ≡ kept_sums f m
  unfolding kept_sums
  same_kept_sums m = rw (same_sums_refusal m, same_sums m) refl

  same_monthly_sums : monthly_sums g ≡ monthly_sums f
  unfolding monthly_sums
  same_monthly_sums =
      ap
      (λ (sums : ℕ → RouteSums).
      record { passive = tab last_month (λ k. (sums (suc k)).passive); active = tab last_month (λ k. (sums (suc k)).active) })
      (fun_ext same_kept_sums)

  -- ---- rows of a batch card

  same_then : (s : ℕ) (x : Start) → files_then s g x ≡ files_then s f x
  same_then s x = rw (same_refusal, same_scenario, same_start p home (table_in f) s x) refl

  same_row : (s : ℕ) (row : List ℕ) → row_answer s g row ≡ row_answer s f row
  unfolding row_answer
  same_row s row = same_then s (start_of (read_row row))

  same_kept : (s : ℕ) (kept : RowText) → kept_answer s g kept ≡ kept_answer s f kept
  unfolding kept_answer
  same_kept s kept = same_then s (start_of (read_kept kept))

  same_group : (s : ℕ) (text : List ℕ) → group_answers s g text ≡ group_answers s f text
  unfolding group_answers
  same_group s text = rw (fun_ext (same_row s)) refl

  same_roll : (s n : ℕ) (roll : List ℕ) → roll_answers s g n roll ≡ roll_answers s f n roll
  unfolding roll_answers
  same_roll s n roll = rw (fun_ext (same_then s)) refl

  -- ---- what is printed

  same_prepared : prepared_of g ≡ prepared_of f
  unfolding prepared_of
  same_prepared = rw (same_run steps_a_day last_month, same_monthly_sums) refl

  same_page : printout g ≡ printout f
  same_page = rw (same_run steps_a_day last_month, fun_ext same_sums) refl

  same_card_page : (text : List ℕ) → card_printout g text ≡ card_printout f text
  unfolding card_printout
  same_card_page text = rw (fun_ext (same_row steps_a_day)) refl

  same_card_lines : (n : ℕ) (roll : List ℕ) → group_lines g n roll ≡ group_lines f n roll
  unfolding group_lines
  same_card_lines n roll = rw (same_roll steps_a_day n roll) refl

  same_calls : SameCalls f g
  same_calls =
      record {
        site_number = read_refusal after ∙ same_site ∙ sym (read_refusal before);
        site_fields = ap (λ (s : Scenario). s.fields) alike.same;
        lengths = rw same_length refl;
        refusal = same_refusal;
        decodes = same_decodes;
        birth = same_birth;
        month = same_month;
        run = same_run;
        sums = same_sums;
        sums_none = same_sums_refusal;
        sums_kept = same_monthly_sums;
        row = same_row;
        row_kept = same_kept;
        group = same_group;
        read = λ text. rw same_decodes refl;
        page = same_page;
        page_kept = same_prepared;
        card_page = same_card_page;
        card_lines = same_card_lines;
        card_read = λ n roll. rw (same_card_lines n roll, same_decodes) refl;
      }

pub same_law : SameLaw
same_law = same_calls
