-- How a reply of the index is written, without a newline.
use Rattle.std.specs.Prelude.{ℕ, List, codes, decimal}
use Rattle.envy_btree.specs.declared.reply.IndexReply.{IndexReply}
use Rattle.envy_btree.specs.declared.reply.IndexReply.TheVariants.{Value, Missing, Full, Fault, Lost, Restarted, Armed}

unfoldable pub index_bytes : IndexReply → List ℕ
index_bytes (Value value) = decimal value
index_bytes Missing = codes "none"
index_bytes Full = codes "full"
index_bytes Fault = codes "fault"
index_bytes Lost = codes "lost"
index_bytes Restarted = codes "restarted"
index_bytes Armed = codes "armed"
