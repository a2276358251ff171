use Rattle.std.proofs.Common.{ap, arith}
use Rattle.shared_vm.specs.inside.Noting.{Noted}
use Rattle.shared_vm.proofs.NotingLaws.{deeds_added, IsJournal-added, bytes_left, numbers_left}
use Rattle.shared_vm.proofs.notes.Notes.add.Goals as goal

pub keep-kept-requires : goal.keep-kept-requires
keep-kept-requires c = record {
  bytes = omega (arith, c.self.inside.bytes.ok, ap (λ (n : Noted). n.spare.bytes) c.self.view_is, c.requires.bytes);
  numbers = omega (arith, c.self.inside.numbers.ok, ap (λ (n : Noted). n.spare.numbers) c.self.view_is, c.requires.numbers);
}

pub push_reserved-requires : goal.push_reserved-requires
push_reserved-requires c = omega (arith, ap (λ (n : Noted). n.spare.deeds) c.self.view_is, c.requires.deed)

pub invariant_of-self : goal.invariant_of-self
invariant_of-self c =
    IsJournal-added _ _ _ _ _ c.keep-kept.result c.keep-kept.ensures.keeps _ _ c.args.actor c.push_reserved.ensures.items c.self.invariant

pub returns-clause-deeds : goal.returns-clause-deeds
returns-clause-deeds c =
    rw (← c.self.view_is) (deeds_added _ _ _ _ _ c.keep-kept.result c.keep-kept.ensures.keeps _ _ c.args.actor c.push_reserved.ensures.items c.self.invariant)

pub returns-clause-spare : goal.returns-clause-spare
returns-clause-spare c = rw (← c.self.view_is) (record {
  deeds = omega (arith, c.push_reserved.ensures.len, c.push_reserved.ensures.capacity);
  bytes = bytes_left _ _ _ _ _ c.keep-kept.result c.keep-kept.ensures.keeps _ _ c.args.actor c.push_reserved.ensures.items c.self.invariant _ _ _ _
      c.self.inside.bytes.ok.0 c.keep-kept.new.bytes.ok.0 c.keep-kept.ensures.bytes;
  numbers = numbers_left _ _ _ _ _ c.keep-kept.result c.keep-kept.ensures.keeps _ _ c.args.actor c.push_reserved.ensures.items c.self.invariant _ _ _ _
      c.self.inside.numbers.ok.0 c.keep-kept.new.numbers.ok.0 c.keep-kept.ensures.numbers;
})
