use Rattle.std.proofs.Common.{length, arith}
use Rattle.page_store.specs.Flat.{flat_content}
use Rattle.checker_ready.specs.Notes.{rows_of}
use Rattle.checker_ready.proofs.AskLaws.{fits_one, fits_two}
use Rattle.checker_ready.proofs.NeedLaws.{may_own}
use Rattle.checker_ready.proofs.WriteLaws.{own_first, own_second, good_between, may_between, writes_none, writes_one, writes_two}
use Rattle.checker_ready.proofs.writing.write_touched.Goals as goal

pub returns-in-No : goal.returns-in-No
returns-in-No c = record {
  writes = λ table free are touches. rw c.in-No.is
      (writes_none table (flat_content c.args.pages.now) (rows_of c.args.ready.now) c.args.place.root.0 c.args.place.addr c.args.bytes.now free are (rw c.in-No.is at touches));
}

pub write_page-requires-clause-may : goal.write_page-requires-clause-may
write_page-requires-clause-may c = let may = rw c.in-One.is at c.requires.may in may.touches.each.0

pub write_page-requires-clause-own : goal.write_page-requires-clause-own
write_page-requires-clause-own c =
    let may = rw c.in-One.is at c.requires.may in
    may_own (flat_content c.args.pages.now) c.in-One.only.entry.koid.0 c.in-One.only.entry.page may.frames

pub write_page-requires-clause-range : goal.write_page-requires-clause-range
write_page-requires-clause-range c =
    let may = rw c.in-One.is at c.requires.may in omega (arith, c.in_page-at.ensures, fits_one c.args.place.addr (length c.args.bytes.now) may.touches.pages)

pub returns-in-One : goal.returns-in-One
returns-in-One c = record {
  writes = λ table free are touches. rw c.in-One.is
      (writes_one table (flat_content c.args.pages.now) (rows_of c.args.ready.now) c.args.place.root.0 c.args.place.addr c.args.bytes.now (flat_content c.write_page.new.pages)
      (rows_of c.write_page.new.ready) c.page_of-page.result c.in_page-at.result c.in-One.only c.page_of-page.ensures c.in_page-at.ensures free (rw c.in-One.is at touches)
      c.write_page.ensures.piece (c.write_page.ensures.rows table are));
}

pub split_at-requires : goal.split_at-requires
split_at-requires c =
    let may = rw c.in-Two.is at c.requires.may in omega (arith, c.in_page-at.ensures, fits_two c.args.place.addr (length c.args.bytes.now) may.touches.pages)

pub write_page-requires-in-Two-clause-own : goal.write_page-requires-in-Two-clause-own
write_page-requires-in-Two-clause-own c = own_first (flat_content c.args.pages.now) c.args.place.addr (length c.args.bytes.now) c.in-Two.first c.in-Two.second (rw c.in-Two.is at c.requires.may)

pub write_page-requires-in-Two-2-clause-good : goal.write_page-requires-in-Two-2-clause-good
write_page-requires-in-Two-2-clause-good c =
    good_between (flat_content c.args.pages.now) c.args.place.addr (length c.args.bytes.now) c.in-Two.first c.in-Two.second (rw c.in-Two.is at c.requires.may)
    _ _ _ (omega (arith, c.in_page-at.ensures, c.split_at.ensures.front_len)) c.write_page-in-Two.ensures.piece

pub write_page-requires-in-Two-2-clause-may : goal.write_page-requires-in-Two-2-clause-may
write_page-requires-in-Two-2-clause-may c =
    may_between (flat_content c.args.pages.now) c.args.place.addr (length c.args.bytes.now) c.in-Two.first c.in-Two.second (rw c.in-Two.is at c.requires.may)
    _ _ _ (omega (arith, c.in_page-at.ensures, c.split_at.ensures.front_len)) c.write_page-in-Two.ensures.piece

pub write_page-requires-in-Two-2-clause-own : goal.write_page-requires-in-Two-2-clause-own
write_page-requires-in-Two-2-clause-own c =
    own_second (flat_content c.args.pages.now) c.args.place.addr (length c.args.bytes.now) c.in-Two.first c.in-Two.second (rw c.in-Two.is at c.requires.may)
    _ _ _ (omega (arith, c.in_page-at.ensures, c.split_at.ensures.front_len)) c.write_page-in-Two.ensures.piece

pub returns-in-Two : goal.returns-in-Two
returns-in-Two c = record {
  writes = λ table free are touches.
      let parts = c.split_at.ensures in
      let may = rw c.in-Two.is at c.requires.may in
      rw c.in-Two.is
      (writes_two table (flat_content c.args.pages.now) (rows_of c.args.ready.now) c.args.place.root.0 c.args.place.addr c.args.bytes.now c.page_of-page.result c.in_page-at.result
      c.in-Two.first c.in-Two.second _ (flat_content c.write_page-in-Two.new.pages) (rows_of c.write_page-in-Two.new.ready) may c.page_of-page.ensures c.in_page-at.ensures
      parts.front (omega (arith, c.in_page-at.ensures, parts.front_len)) c.write_page-in-Two.ensures.piece
      _ (flat_content c.write_page-in-Two-2.new.pages) (rows_of c.write_page-in-Two-2.new.ready) c.requires.len parts.back free (rw c.in-Two.is at touches)
      c.write_page-in-Two-2.ensures.piece (c.write_page-in-Two.ensures.rows table are) (c.write_page-in-Two-2.ensures.rows table));
}
