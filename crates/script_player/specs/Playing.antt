-- How the fields of the player and of its books are seen.
use Rattle.script_player.specs.declared.plain_player.PlainPlayer.TheInside.{Inside}
use Rattle.script_player.specs.declared.books.Books.TheInside as books
use Rattle.script_player.specs.Books.{Books}
use Rattle.script_player.specs.Table.{Table}

abbrev pub books_of : books.Inside → Books
books_of b = record { names = b.names; known = b.known.items; prepared = b.prepared.items; attached = b.attached.items }

abbrev pub table_of : Inside → Table
table_of p = record { world = p.world; scene = p.scene; books = p.books }
