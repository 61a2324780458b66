-- `files::CallFiles::check_lengths` meets its contract: each return is one case of the two lengths.
use borrow.Author.Tests.{eq-eqb, ne_eqb}
use Rattle.numbers.specs.Choice.{unless}
use Rattle.block.specs.Block.{block_bytes}
use Rattle.book.specs.Book.{book_bytes}
use Rattle.files.proofs.CallFiles.check_lengths.Goals as goal

pub returns-then-site-ne-SITE_BYTES : goal.returns-then-site-ne-SITE_BYTES
unfolding unless
returns-then-site-ne-SITE_BYTES c = rw (ne_eqb _ block_bytes c.if-site-ne-SITE_BYTES.true)

pub returns-then-book-ne-BOOK_BYTES : goal.returns-then-book-ne-BOOK_BYTES
unfolding unless
returns-then-book-ne-BOOK_BYTES c = rw (eq-eqb _ block_bytes c.if-site-ne-SITE_BYTES.false, ne_eqb _ book_bytes c.if-book-ne-BOOK_BYTES.true)

pub returns : goal.returns
unfolding unless
returns c = rw (eq-eqb _ block_bytes c.if-site-ne-SITE_BYTES.false, eq-eqb _ book_bytes c.if-book-ne-BOOK_BYTES.false)
