-- The DEBMUL chart: the table of the guide's section 2.2 with what the segments' pages say.
use Rattle.std.specs.Prelude.{List, [], ◌∷◌, ℕ}
use Rattle.table.specs.declared.Row.{Row}
use Rattle.table.specs.Entries.{Entry, entry, outside, lines_from}

-- the rows, 'numbered from 1 in the order of' 000 section 2.2; row 0 is the message: 'such a group, opened by UNH'
unfoldable pub table : List Entry
table =
    entry "UNH" outside "M" 1 ∷  -- 0 the message
    entry "UNH" 0 "M" 1 ∷  -- 1
    entry "BGM" 0 "M" 1 ∷  -- 2
    entry "DTM" 0 "M" 1 ∷  -- 3
    entry "BUS" 0 "N" 1 ∷  -- 4
    entry "RFF" 0 "D" 2 ∷  -- 5 SG1
    entry "RFF" 5 "M" 1 ∷  -- 6
    entry "DTM" 5 "O" 1 ∷  -- 7
    entry "FII" 0 "O" 5 ∷  -- 8 SG2
    entry "FII" 8 "M" 1 ∷  -- 9
    entry "CTA" 8 "N" 1 ∷  -- 10
    entry "COM" 8 "N" 5 ∷  -- 11
    entry "NAD" 0 "O" 3 ∷  -- 12 SG3
    entry "NAD" 12 "M" 1 ∷  -- 13
    entry "CTA" 12 "O" 1 ∷  -- 14
    entry "COM" 12 "O" 5 ∷  -- 15
    entry "LIN" 0 "M" 9999 ∷  -- 16 SG4
    entry "LIN" 16 "M" 1 ∷  -- 17
    entry "DTM" 16 "R" 3 ∷  -- 18
    entry "BUS" 16 "O" 1 ∷  -- 19
    entry "MOA" 16 "M" 2 ∷  -- 20
    entry "RFF" 16 "M" 3 ∷  -- 21 SG5
    entry "RFF" 21 "M" 1 ∷  -- 22
    entry "DTM" 21 "O" 1 ∷  -- 23
    entry "FII" 16 "M" 1 ∷  -- 24 SG6
    entry "FII" 24 "M" 1 ∷  -- 25
    entry "CTA" 24 "N" 1 ∷  -- 26
    entry "COM" 24 "N" 5 ∷  -- 27
    entry "FCA" 16 "D" 5 ∷  -- 28 SG7
    entry "FCA" 28 "M" 1 ∷  -- 29
    entry "MOA" 28 "D" 2 ∷  -- 30
    entry "ALC" 28 "D" 6 ∷  -- 31 SG8
    entry "ALC" 31 "M" 1 ∷  -- 32
    entry "PCD" 31 "O" 1 ∷  -- 33
    entry "MOA" 31 "R" 2 ∷  -- 34
    entry "CUX" 31 "N" 1 ∷  -- 35
    entry "DTM" 31 "N" 1 ∷  -- 36
    entry "TAX" 31 "O" 5 ∷  -- 37 SG9
    entry "TAX" 37 "M" 1 ∷  -- 38
    entry "MOA" 37 "O" 2 ∷  -- 39
    entry "CUX" 37 "D" 1 ∷  -- 40
    entry "DTM" 37 "O" 1 ∷  -- 41
    entry "SEQ" 16 "R" 9999 ∷  -- 42 SG10
    entry "SEQ" 42 "M" 1 ∷  -- 43
    entry "DTM" 42 "O" 3 ∷  -- 44
    entry "BUS" 42 "O" 1 ∷  -- 45
    entry "FII" 42 "M" 2 ∷  -- 46
    entry "RFF" 42 "D" 5 ∷  -- 47 SG11
    entry "RFF" 47 "M" 1 ∷  -- 48
    entry "DTM" 47 "O" 1 ∷  -- 49
    entry "PAI" 42 "O" 1 ∷  -- 50 SG12
    entry "PAI" 50 "M" 1 ∷  -- 51
    entry "FTX" 50 "O" 1 ∷  -- 52
    entry "MOA" 42 "M" 4 ∷  -- 53 SG13
    entry "MOA" 53 "M" 1 ∷  -- 54
    entry "CUX" 53 "D" 1 ∷  -- 55
    entry "DTM" 53 "O" 2 ∷  -- 56
    entry "RFF" 53 "D" 1 ∷  -- 57
    entry "NAD" 42 "O" 3 ∷  -- 58 SG14
    entry "NAD" 58 "M" 1 ∷  -- 59
    entry "CTA" 58 "O" 1 ∷  -- 60
    entry "COM" 58 "O" 5 ∷  -- 61
    entry "INP" 42 "O" 3 ∷  -- 62 SG15
    entry "INP" 62 "M" 1 ∷  -- 63
    entry "FTX" 62 "O" 1 ∷  -- 64
    entry "DTM" 62 "O" 2 ∷  -- 65
    entry "GIS" 42 "O" 10 ∷  -- 66 SG16
    entry "GIS" 66 "M" 1 ∷  -- 67
    entry "MOA" 66 "O" 1 ∷  -- 68
    entry "LOC" 66 "O" 2 ∷  -- 69
    entry "NAD" 66 "O" 1 ∷  -- 70
    entry "RCS" 66 "O" 1 ∷  -- 71
    entry "FTX" 66 "O" 10 ∷  -- 72
    entry "FCA" 42 "D" 5 ∷  -- 73 SG17
    entry "FCA" 73 "M" 1 ∷  -- 74
    entry "MOA" 73 "D" 2 ∷  -- 75
    entry "ALC" 73 "O" 20 ∷  -- 76 SG18
    entry "ALC" 76 "M" 1 ∷  -- 77
    entry "PCD" 76 "O" 1 ∷  -- 78
    entry "MOA" 76 "R" 2 ∷  -- 79
    entry "CUX" 76 "N" 1 ∷  -- 80
    entry "DTM" 76 "N" 1 ∷  -- 81
    entry "TAX" 76 "O" 5 ∷  -- 82 SG19
    entry "TAX" 82 "M" 1 ∷  -- 83
    entry "MOA" 82 "O" 2 ∷  -- 84
    entry "CUX" 82 "O" 1 ∷  -- 85
    entry "DTM" 82 "O" 1 ∷  -- 86
    entry "PRC" 42 "O" 1 ∷  -- 87 SG20
    entry "PRC" 87 "M" 1 ∷  -- 88
    entry "FTX" 87 "D" 5 ∷  -- 89
    entry "DOC" 87 "D" 9999 ∷  -- 90 SG21
    entry "DOC" 90 "M" 1 ∷  -- 91
    entry "MOA" 90 "O" 5 ∷  -- 92
    entry "DTM" 90 "O" 5 ∷  -- 93
    entry "RFF" 90 "O" 5 ∷  -- 94
    entry "NAD" 90 "O" 2 ∷  -- 95
    entry "CUX" 90 "O" 5 ∷  -- 96 SG22
    entry "CUX" 96 "M" 1 ∷  -- 97
    entry "DTM" 96 "O" 1 ∷  -- 98
    entry "AJT" 90 "O" 100 ∷  -- 99 SG23
    entry "AJT" 99 "M" 1 ∷  -- 100
    entry "MOA" 99 "O" 1 ∷  -- 101
    entry "RFF" 99 "O" 1 ∷  -- 102
    entry "FTX" 99 "O" 5 ∷  -- 103
    entry "DLI" 90 "O" 9999 ∷  -- 104 SG24
    entry "DLI" 104 "M" 1 ∷  -- 105
    entry "MOA" 104 "O" 5 ∷  -- 106
    entry "PIA" 104 "O" 5 ∷  -- 107
    entry "DTM" 104 "O" 5 ∷  -- 108
    entry "CUX" 104 "O" 5 ∷  -- 109 SG25
    entry "CUX" 109 "M" 1 ∷  -- 110
    entry "DTM" 109 "O" 1 ∷  -- 111
    entry "AJT" 104 "O" 10 ∷  -- 112 SG26
    entry "AJT" 112 "M" 1 ∷  -- 113
    entry "MOA" 112 "O" 1 ∷  -- 114
    entry "RFF" 112 "O" 1 ∷  -- 115
    entry "FTX" 112 "O" 5 ∷  -- 116
    entry "GIS" 87 "O" 1 ∷  -- 117 SG27
    entry "GIS" 117 "M" 1 ∷  -- 118
    entry "MOA" 117 "O" 5 ∷  -- 119
    entry "CNT" 0 "R" 5 ∷  -- 120
    entry "AUT" 0 "O" 5 ∷  -- 121 SG28
    entry "AUT" 121 "M" 1 ∷  -- 122
    entry "DTM" 121 "R" 1 ∷  -- 123
    entry "UNT" 0 "M" 1 ∷  -- 124
    []

-- its lines, as the code has them
unfoldable pub DEBMUL : List Row
DEBMUL = lines_from 0 table

-- how many rows it has, row 0 among them
abbrev pub size : ℕ
size = 125
