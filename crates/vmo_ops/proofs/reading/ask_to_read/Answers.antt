use Rattle.std.proofs.Common.{refl, arith}
use Rattle.std.proofs.lemmas.Bool.{lt-ltb, le-ltb}
use Rattle.vm_base.specs.declared.limits.TheConstants.{DATA_BYTES}
use Rattle.vmo_ops.specs.Targets.{with_content}
use Rattle.vmo_ops.proofs.AskLaws.{hit, skip, by_name, read_rows}
use Rattle.vmo_ops.proofs.reading.ask_to_read.Goals as goal

pub returns-then-len : goal.returns-then-len
returns-then-len g c = λ rest name named.
    let s = with_content (g.P.PageStore.content c.args.store.now) rest in
    by_name s name.0 _ named (read_rows s c.args.offset c.args.len) _ (hit _ _ _ (lt-ltb DATA_BYTES c.args.len (omega (arith, c.if-len.true))))

pub returns-in-None : goal.returns-in-None
returns-in-None g c = λ rest name named.
    let s = with_content (g.P.PageStore.content c.args.store.now) rest in
    by_name s name.0 _ named (read_rows s c.args.offset c.args.len) _ (skip _ _ _ _ (le-ltb DATA_BYTES c.args.len (omega (arith, c.if-len.false))) (hit _ _ _ (lt-ltb _ _ c.in-None.ensures.none)))

pub returns-in-Some : goal.returns-in-Some
returns-in-Some g c = (
  λ rest name named.
      let s = with_content (g.P.PageStore.content c.args.store.now) rest in
      by_name s name.0 _ named (read_rows s c.args.offset c.args.len) _ (skip _ _ _ _ (le-ltb DATA_BYTES c.args.len (omega (arith, c.if-len.false))) (skip _ _ _ _ (le-ltb _ _ c.in-Some.ensures.some.range) refl)),
  omega (arith, c.if-len.false),
  c.in-Some.ensures.some,
)
