-- Rows that say zero and hide no frame go: the forest stays a store, with the content that it had.
use Rattle.cow_forest.proofs.Words.{◌≡◌, refl, Rows, same_content, Row, AreLinked, forest_content, IsStore, Forest, is_taken, HasSwept}
use Rattle.cow_fork.proofs.SweepLaws.{swept-was}
use Rattle.cow_forest.proofs.StoreLaws.{with_rows, store-kept, page-same}

module _ (f : Forest) (s : IsStore f) (rows : Rows Row) (swept : HasSwept f.arena f.rows rows) where
  linked : AreLinked rows f.pool
  linked = record { linked = λ l q row t at frame. s.linked.linked l q row t (swept-was f.arena f.rows rows swept l q row at) frame }

  pub store-swept : IsStore (with_rows f rows f.pool)
  store-swept = store-kept f rows f.pool s (swept.exact (is_taken f.pool) s.exact) linked

  pub content-swept : forest_content (with_rows f rows f.pool) ≡ forest_content f
  content-swept = same_content _ _ refl refl (λ w. refl) (λ w q.
      page-same f rows f.pool s store-swept w q (λ k h page. record { frame = swept.shows k q; bytes = λ t shown. refl }))
