-- What may have come of a word since it was seen: so many changes in a row.

-- none or more changes, one after the other
pub data Chain {Seen : Type 0} (Change : Seen → Seen → Type 0) : (old new : Seen) → Type 0 where
  Stays : (seen : Seen) → Chain Change seen seen
  Then : (old mid new : Seen) → Chain Change old mid → Change mid new → Chain Change old new
