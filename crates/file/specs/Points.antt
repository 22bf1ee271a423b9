-- Points as the program holds them. Assumes nothing.
use Rattle.plex.specs.Distance as Dome
use Rattle.file.specs.declared.dome.Point.{Point}

abbrev pub meant : Point → Dome.Point
meant p = record { x = p.x; y = p.y; z = p.z }
