use Rattle.script_player.proofs.Finding.{HasFound}
use Rattle.script_player.proofs.books.Books.known_all.Given as goal

abbrev pub invariant-loop-name : goal.invariant-loop-name
invariant-loop-name l = HasFound l.self l.names l.found.items l.name-index
