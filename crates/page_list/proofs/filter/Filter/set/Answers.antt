use Rattle.std.proofs.Common.{◌-◌, ◌^◌, refl, arith}
use Rattle.std.proofs.lemmas.List.{get_or_read}
use Rattle.page_list.proofs.FilterLaws.{bit-set, bits-kept, bit-past, more-same}
use Rattle.page_list.proofs.filter.Filter.set.Goals as goal

pub returns-then-at-len-clause-set : goal.returns-then-at-len-clause-set
returns-then-at-len-clause-set c =
    let f = c.args.self.now in
    bit-set f _ c.args.list c.args.page _ (omega arith) (get_or_read f.words.items _ _ (omega arith) c.index_mut.ensures.value (2 ^ 64 - 1)) refl refl

pub returns-then-at-len-clause-more : goal.returns-then-at-len-clause-more
returns-then-at-len-clause-more c =
    let f = c.args.self.now in
    bits-kept f _ c.args.list c.args.page _ (omega arith) (get_or_read f.words.items _ _ (omega arith) c.index_mut.ensures.value (2 ^ 64 - 1)) refl refl

pub returns-else-at-len-clause-more : goal.returns-else-at-len-clause-more
returns-else-at-len-clause-more c = more-same _ _ refl refl

pub returns-else-at-len-clause-set : goal.returns-else-at-len-clause-set
returns-else-at-len-clause-set c = bit-past _ c.args.list c.args.page (omega arith)
