use Rattle.std.proofs.Common.{inl, inr, arith}
use Rattle.std.proofs.lemmas.Bool.{cases_lt}
use Rattle.mapping_set.specs.Tables.{table_of}
use Rattle.mapping_set.proofs.GapLaws.{gap-here, held-met, held-other}
use Rattle.mapping_set.proofs.mapping_set.MappingSet.first_gap.Goals as goal
use Rattle.mapping_set.proofs.mapping_set.MappingSet.first_gap.Goals.{then-piece-region, else-piece-region}

pub returns-in_default : goal.returns-in_default
returns-in_default c = record {
  not_before = c.search.invariant.not_before;
  not_past = omega (arith, c.search-test.true, c.if-start-limit.true);
  is = gap-here (table_of c.args.self.now) c.args.root.0 c.args.region.0 c.search.start c.search.at c.args.count c.search.invariant.bare (λ p low high. c.in_default.ensures.bare p low);
  first = λ p low less free. c.search.invariant.passed p low less free;
}

pub returns-then-start-count : goal.returns-then-start-count
returns-then-start-count c = record {
  not_before = c.search.invariant.not_before;
  not_past = omega (arith, c.search-test.true, c.if-start-limit.true);
  is = gap-here (table_of c.args.self.now) c.args.root.0 c.args.region.0 c.search.start c.search.at c.args.count c.search.invariant.bare
      (λ p low high. c.in-Some.ensures.free p low (omega (arith, high, c.if-start-count.true)));
  first = λ p low less free. c.search.invariant.passed p low less free;
}

pub search-preserved : goal.search-preserved
search-preserved c =
    let held = c.in-Some.ensures in
    let on = held.not_before in
    let was = c.search.invariant in
    elim c.if-piece-region.branch [
      | then-piece-region w ↦ record {
        not_before = omega (arith, w.start-is, was.not_before, was.ahead, on);
        ahead = omega (arith, w.start-is);
        passed = λ p low less none. elim (cases_lt p c.search.start) [
          | inl before ↦ was.passed p low before none
          | inr behind ↦ held-met _ c.args.root.0 c.args.region.0 c.search.at c.in-Some.last c.in-Some.piece held w.if-piece-region.true p c.args.count c.requires.some
              (omega (arith, less, w.start-is)) (omega (arith, behind, c.if-start-count.false)) none
        ];
        bare = λ p low high. absurd (omega (arith, low, high, w.start-is));
      }
      | else-piece-region w ↦ record {
        not_before = omega (arith, w.start-is, was.not_before);
        ahead = omega (arith, w.start-is, was.ahead, on);
        passed = λ p low less none. was.passed p low (omega (arith, less, w.start-is)) none;
        bare = λ p low high. elim (cases_lt p c.search.at) [
          | inl before ↦ was.bare p (omega (arith, low, w.start-is)) before
          | inr behind ↦ held-other _ c.args.root.0 c.args.region.0 c.search.at c.in-Some.last c.in-Some.piece held w.if-piece-region.false p behind (omega (arith, high))
        ];
      }
    ]
