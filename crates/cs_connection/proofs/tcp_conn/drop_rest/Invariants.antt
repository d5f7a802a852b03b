use Rattle.cs_connection.proofs.tcp_conn.drop_rest.Given as goal

abbrev pub decreases-pieces : goal.decreases-pieces
decreases-pieces l = l.left
