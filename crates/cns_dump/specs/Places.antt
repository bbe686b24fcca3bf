-- Where a record stands, and what follows the last one (this project's own format).
use Rattle.std.specs.Prelude.{ℕ, List, ◌++◌, codes}
use Rattle.std.specs.Fmt.{decimal}
use Rattle.cns_file.specs.declared.tail.Tail.{Tail}
use Rattle.cns_file.specs.declared.tail.Tail.TheVariants.{Nothing, Crash, Damage}
use Rattle.cns_dump.specs.declared.place.Place.{Place}

-- record PLACE byte BYTE
abbrev pub place_words : Place → List ℕ
place_words place = codes "record " ++ decimal place.number ++ codes " byte " ++ decimal place.byte ++ codes " "

-- what follows
abbrev pub end_words : ℕ → Tail → List ℕ
end_words bytes Nothing = codes "nothing follows"
end_words bytes Crash = decimal bytes ++ codes " bytes follow, as a crash may leave them"
end_words bytes Damage = decimal bytes ++ codes " bytes follow that no crash leaves: damage"
