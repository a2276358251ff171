use Rattle.std.proofs.Common.{length, arith}
use Rattle.page_store.specs.Flat.{flat_content}
use Rattle.checker_ready.specs.Notes.{rows_of}
use Rattle.checker_ready.proofs.AskLaws.{fits_one, fits_two}
use Rattle.checker_ready.proofs.ReadLaws.{reads_none, reads_one, reads_two}
use Rattle.checker_ready.proofs.reading.read_touched.Goals as goal

pub returns-in-No : goal.returns-in-No
returns-in-No c = record {
  reads = λ table good free are touches. rw c.in-No.is
      (reads_none table (flat_content c.args.pages.now) c.args.place.root.0 c.args.place.addr (rows_of c.args.ready.now) c.args.out.now free are (rw c.in-No.is at touches));
}

pub read_page-requires-clause-inside : goal.read_page-requires-clause-inside
read_page-requires-clause-inside c = let inside = rw c.in-One.is at c.requires.inside in inside.each.0

pub read_page-requires-in-Two-clause-inside : goal.read_page-requires-in-Two-clause-inside
read_page-requires-in-Two-clause-inside c = let inside = rw c.in-Two.is at c.requires.inside in inside.each.0

pub read_page-requires-in-Two-2-clause-inside : goal.read_page-requires-in-Two-2-clause-inside
read_page-requires-in-Two-2-clause-inside c = let inside = rw c.in-Two.is at c.requires.inside in inside.each.1.0

pub read_page-requires-clause-range : goal.read_page-requires-clause-range
read_page-requires-clause-range c =
    let inside = rw c.in-One.is at c.requires.inside in
    omega (arith, c.in_page-at.ensures, fits_one c.args.place.addr (length c.args.out.now) inside.pages)

pub returns-in-One : goal.returns-in-One
returns-in-One c = record {
  reads = λ table good free are touches. rw c.in-One.is
      (reads_one table (flat_content c.args.pages.now) c.args.place.root.0 c.args.place.addr (rows_of c.args.ready.now) good
      c.page_of-page.result c.in_page-at.result (length c.args.out.now) c.in-One.only c.read_page.new.out (rows_of c.read_page.new.ready)
      c.page_of-page.ensures c.in_page-at.ensures free (rw c.in-One.is at touches) c.read_page.ensures.bytes (c.read_page.ensures.rows table are));
}

pub split_at_mut-here-requires : goal.split_at_mut-here-requires
split_at_mut-here-requires c =
    let inside = rw c.in-Two.is at c.requires.inside in
    omega (arith, c.in_page-at.ensures, fits_two c.args.place.addr (length c.args.out.now) inside.pages)

pub returns-in-Two : goal.returns-in-Two
returns-in-Two c = record {
  reads = λ table good free are touches.
      let parts = c.split_at_mut-here.ensures in
      rw c.in-Two.is
      (reads_two table (flat_content c.args.pages.now) c.args.place.root.0 c.args.place.addr (rows_of c.args.ready.now) good
      c.page_of-page.result c.in_page-at.result _ _ (length c.args.out.now) c.in-Two.first c.in-Two.second _ _ (rows_of c.read_page-in-Two.new.ready) (rows_of c.read_page-in-Two-2.new.ready)
      c.page_of-page.ensures c.in_page-at.ensures (omega (arith, parts.front_len, c.in_page-at.ensures)) (omega (arith, parts.back_len, c.requires.len)) (omega (arith, parts.front_len, parts.back_len))
      free (rw c.in-Two.is at touches) c.read_page-in-Two.ensures.bytes c.read_page-in-Two-2.ensures.bytes (c.read_page-in-Two.ensures.rows table are) (c.read_page-in-Two-2.ensures.rows table));
}
