-- How the fields of the translations are seen, and what holds of them.
use Rattle.slab.specs.Slab.{get, slab_len}
use Rattle.fault.specs.declared.translations.Translations.TheInside.{Inside}
use Rattle.fault.specs.Table.{Table}
use Rattle.fault.specs.inside.Pages.{link_numbers}
use Rattle.fault.specs.inside.Lists.{AreLinkedInLists, room_in}

-- One translation more takes room in each map, and a link.
abbrev pub translation_table_of : Inside → Table
translation_table_of a = record { rows = a.places; lists = a.lists; links = a.links; room = room_in a.places a.lists a.links }

abbrev pub IsTranslationTable : Inside → Type 0
IsTranslationTable a = AreLinkedInLists (link_numbers a.places) (link_numbers a.lists) (get a.links) (slab_len a.links)
