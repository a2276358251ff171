-- Parts of a list that stand one behind another.
use Rattle.std.proofs.Common.{◌≡◌, ◌-◌, List, ◌++◌, length, take, drop, sym, ap, ◌∙◌, arith}
use Rattle.std.proofs.lemmas.List.{length-append, length-drop, take-append-le, drop-append-le, drop_at, take_all}
use Rattle.shared_vm.specs.declared.place.Place.{Place}
use Rattle.shared_vm.specs.inside.Places.{LiesWithin, items_at}

module _ {A : Type 0} (items more : List A) (place : Place) where
  -- a part stays, whatever is added behind it
  pub part-more : LiesWithin (length items) place → items_at (items ++ more) place ≡ items_at items place
  part-more within =
      ap (take (place.end - place.start)) (drop-append-le place.start items more (omega (arith, within.ordered, within.short)))
      ∙ take-append-le (place.end - place.start) (drop place.start items) more (omega (arith, within.ordered, within.short, length-drop place.start items))

  pub LiesWithin-more : LiesWithin (length items) place → LiesWithin (length (items ++ more)) place
  LiesWithin-more within = record { ordered = within.ordered; short = omega (arith, within.short, length-append items more) }

  -- the part that was added
  module _ (start : place.start ≡ length items) (end : place.end ≡ length (items ++ more)) where
    pub part-added : items_at (items ++ more) place ≡ more
    part-added =
        ap (take (place.end - place.start)) (drop_at items more place.start (sym start))
        ∙ take_all (place.end - place.start) more (omega (arith, start, end, length-append items more))

    pub LiesWithin-added : LiesWithin (length (items ++ more)) place
    LiesWithin-added = record { ordered = omega (arith, start, end, length-append items more); short = omega (arith, end) }
