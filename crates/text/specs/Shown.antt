-- What a page shows.
use Rattle.std.specs.Prelude.{ℕ, List, take}
use Rattle.text.specs.declared.page.Page.{Page}

-- the bytes that the page shows
abbrev pub shown : Page → List ℕ
shown p = take p.len p.bytes
