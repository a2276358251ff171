use Rattle.cow_forest.proofs.Words.{◌≡◌, ℕ, Result, Ok, Err, None, OnOk, OnErr, sym, subst, Pool, taken_frames, nothing, forest_of, Forest}
use Rattle.cow_forest.proofs.Words.{forest_content, IsStore}
use Rattle.cow_forest.proofs.EmptyLaws.{no-frames, store-filled, content-filled}
use Rattle.cow_forest.proofs.forest.CowForestPageStore.fill.Goals as goal

pub fill-requires-clause-empty : goal.fill-requires-clause-empty
fill-requires-clause-empty c = no-frames (forest_of c.self.inside) c.self.inside.frames c.self.invariant.store (rw (← c.self.view_is) at c.requires.empty)

-- the pool has its frames, or nothing changed
either : {T E : Type 0} (f : Forest) (pool : Pool) (answer : Result T E) → IsStore f → forest_content f ≡ nothing →
    OnOk answer ((t : ℕ) → taken_frames pool t ≡ None) → OnErr answer (pool ≡ f.pool) → IsStore (record f { pool = pool })
either f pool (Ok _) s empty free same = store-filled f pool s empty free
either f pool (Err _) s empty free same = subst (λ (other : Pool). IsStore (record f { pool = other })) (sym same) s

filled : {T E : Type 0} (f : Forest) (pool : Pool) (n : ℕ) (answer : Result T E) → IsStore f → forest_content f ≡ nothing → OnOk answer (pool.frames ≡ n) →
    OnOk answer (forest_content (record f { pool = pool }) ≡ record (forest_content f) { frames = n })
filled f pool n (Ok _) s empty frames = content-filled f pool s empty n frames
filled f pool n (Err _) s empty frames = frames

pub invariant_of-self : goal.invariant_of-self
invariant_of-self c = record {
  store = either (forest_of c.self.inside) c.fill.new.self c.fill.result c.self.invariant.store (rw (← c.self.view_is) at c.requires.empty)
      c.fill.ensures.taken c.fill.ensures.err;
  jumps = c.self.invariant.jumps;
  founders = c.self.invariant.founders;
}

pub returns-clause-ok : goal.returns-clause-ok
returns-clause-ok c =
    rw (← c.self.view_is) (filled (forest_of c.self.inside) c.fill.new.self c.args.frames c.fill.result c.self.invariant.store (rw (← c.self.view_is) at c.requires.empty)
    c.fill.ensures.frames)
