-- `files::CallFiles::read` meets its contract: refused by a length, by the scenario's files or by the book, or read.
use Rattle.std.proofs.lemmas.Result.{err_from_is_err_and}
use Rattle.files.specs.CallFiles.{files_in}
use Rattle.files.proofs.ReadAnswers.{lengths_refused, scenario_refused, book_refused, files_read}
use Rattle.files.proofs.CallFiles.read.Goals as goal

pub returns-in_err-check_lengths : goal.returns-in_err-check_lengths
returns-in_err-check_lengths c =
    let p = err_from_is_err_and c.from_residual.result c.from_residual.ensures.1 in
    rw (p.1, p.2) (lengths_refused (files_in c.args.self.now) _ _ c.in_err-check_lengths.ensures)

pub returns-in_err-scenario : goal.returns-in_err-scenario
returns-in_err-scenario c =
    let p = err_from_is_err_and c.from_residual-in_err-scenario.result c.from_residual-in_err-scenario.ensures.1 in
    let e = c.in_err-scenario.ensures in
    rw (p.1, p.2) (scenario_refused (files_in c.args.self.now) c.in_ok-check_lengths.ensures _ _ e.number)

pub returns-in_err-read_book : goal.returns-in_err-read_book
returns-in_err-read_book c =
    let p = err_from_is_err_and c.from_residual-in_err-read_book.result c.from_residual-in_err-read_book.ensures.1 in
    let s = c.in_ok-scenario.ensures in
    let e = c.in_err-read_book.ensures in
    rw (p.1, p.2) (book_refused (files_in c.args.self.now) c.in_ok-check_lengths.ensures s.number _ _ e.decodes_after _ e.number)

pub returns : goal.returns
returns c =
    let s = c.in_ok-scenario.ensures in
    let e = c.in_ok-read_book.ensures in
    files_read (files_in c.args.self.now) c.in_ok-check_lengths.ensures s.number _ _ e.decodes_after s.value e.number e.table_after
