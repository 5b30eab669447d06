-- The text of the help.
use Rattle.std.specs.Prelude.{ℕ, List, [], ◌∷◌, codes}
use Rattle.std.specs.List.{flat_map}

-- the lines, none of them longer than 80 columns
abbrev pub help_lines : List (List ℕ)
help_lines =
    codes "Runs a packet transaction over the packets of a capture, and prints what becomes\n"
    ∷ codes "of them and of the registers; or prints the transaction's code.\n"
    ∷ codes "\n"
    ∷ codes "Usage: mp5 MODE PROGRAM CAPTURE [OPTIONS]\n"
    ∷ codes "       mp5 --help\n"
    ∷ codes "\n"
    ∷ codes "Arguments:\n"
    ∷ codes "  MODE     how to run:\n"
    ∷ codes "             one     one packet after another, in order of arrival\n"
    ∷ codes "             plan    the compiled program: groups, and the places of each packet\n"
    ∷ codes "             serial  a switch of several pipelines, step by step, on one thread\n"
    ∷ codes "             run     the same switch, with a thread for each pipeline\n"
    ∷ codes "  PROGRAM  the file of the transaction, a text in Domino of at most 65536 bytes\n"
    ∷ codes "  CAPTURE  the file of the packets, a classic capture (pcap) of Ethernet frames\n"
    ∷ codes "           of at most 134217728 bytes; or gen:COUNT:SEED, for which no file is\n"
    ∷ codes "           read: COUNT packets, at most 262144, are made from a seed, which is\n"
    ∷ codes "           at most 4294967295\n"
    ∷ codes "\n"
    ∷ codes "Options:\n"
    ∷ codes "  --pipelines K  how many pipelines a switch has, from 1 to 8 (default 4)\n"
    ∷ codes "  --window W     how many of its own arrivals a pipeline has out at once, from 1\n"
    ∷ codes "                 to 1024 (default 64)\n"
    ∷ codes "  --round M      how many arrivals a round has, from 1 to 65536 (default 256)\n"
    ∷ codes "  --seed N       where the order of the steps starts from, from 0 to 4294967295\n"
    ∷ codes "                 (default 0)\n"
    ∷ codes "  --trace        in modes serial and run also prints which pipeline served what\n"
    ∷ codes "  --brief        prints sums in place of the packets and the registers\n"
    ∷ codes "  -h, --help     prints this text on standard error\n"
    ∷ codes "  --             ends the options, so that the name of a file may begin with -\n"
    ∷ codes "\n"
    ∷ codes "The exit status is 0 where all was written, and else\n"
    ∷ codes "  1  help was asked for          5  a file could not be read\n"
    ∷ codes "  2  the words aren't taken      6  the output could not be written\n"
    ∷ codes "  3  the program isn't accepted  7  memory ran out\n"
    ∷ codes "  4  the capture isn't read\n"
    ∷ []

-- the lines one after another
unfoldable pub help_text : List ℕ
help_text = flat_map (λ line. line) help_lines
